-- By the lemma.
use Rattle.lw_laws.proofs.LabelLaws.{along_heights}
use Rattle.lw_laws.proofs.covers.covers_along_heights_attain.Goals as goal

pub returns : goal.returns
returns c = along_heights
