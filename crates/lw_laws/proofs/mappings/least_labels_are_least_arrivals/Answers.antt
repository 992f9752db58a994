-- By the lemma.
use Rattle.lw_laws.proofs.NetlistOf.{root_least}
use Rattle.lw_laws.proofs.mappings.least_labels_are_least_arrivals.Goals as goal

pub returns : goal.returns
returns c = root_least
