-- By the lemma.
use Rattle.lw_laws.proofs.MarkLaws.{priced_above}
use Rattle.lw_laws.proofs.covers.priced_matches_are_above_marks.Goals as goal

pub returns : goal.returns
returns c = priced_above
