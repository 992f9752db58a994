-- By the lemma.
use Rattle.lw_look.proofs.Networks.{cover_is_matches}
use Rattle.lw_look.proofs.laws.covers_are_match_netlists.Goals as goal

pub returns : goal.returns
returns c = cover_is_matches
