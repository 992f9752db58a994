-- By the lemma.
use Rattle.lw_laws.proofs.NetlistOf.{form_least}
use Rattle.lw_laws.proofs.mappings.least_labels_are_least_times.Goals as goal

pub returns : goal.returns
returns c = form_least
