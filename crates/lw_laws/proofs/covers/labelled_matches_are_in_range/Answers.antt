-- By the lemma.
use Rattle.lw_laws.proofs.RoundLaws.{match_in}
use Rattle.lw_laws.proofs.covers.labelled_matches_are_in_range.Goals as goal

pub returns : goal.returns
returns c = match_in
