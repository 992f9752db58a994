-- By the lemma.
use Rattle.lw_laws.proofs.LabelLaws.{heights_there}
use Rattle.lw_laws.proofs.covers.some_heights_are_found.Goals as goal

pub returns : goal.returns
returns c = heights_there
