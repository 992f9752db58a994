-- By the lemma.
use Rattle.lw_laws.proofs.LabelLaws.{local_heights}
use Rattle.lw_laws.proofs.covers.heights_are_found_locally.Goals as goal

pub returns : goal.returns
returns c = local_heights
