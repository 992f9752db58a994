-- By the lemma.
use Rattle.lw_laws.proofs.NetValues.{values_once}
use Rattle.lw_laws.proofs.networks.right_assignments_are_one.Goals as goal

pub returns : goal.returns
returns c = values_once
