-- By the lemma.
use Rattle.lw_laws.proofs.RoundLaws.{last_heights}
use Rattle.lw_laws.proofs.covers.last_heights_are_all.Goals as goal

pub returns : goal.returns
returns c = last_heights
