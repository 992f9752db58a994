-- By the lemma.
use Rattle.lw_laws.proofs.RoundLaws.{first_heights}
use Rattle.lw_laws.proofs.covers.first_heights_are_right.Goals as goal

pub returns : goal.returns
returns c = first_heights
