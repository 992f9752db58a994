-- By the lemma.
use Rattle.lw_laws.proofs.RoundLaws.{next_heights}
use Rattle.lw_laws.proofs.covers.next_heights_are_right.Goals as goal

pub returns : goal.returns
returns c = next_heights
