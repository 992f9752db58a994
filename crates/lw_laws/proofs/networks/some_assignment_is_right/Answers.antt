-- By the lemma.
use Rattle.lw_laws.proofs.NetValues.{net_values_are}
use Rattle.lw_laws.proofs.networks.some_assignment_is_right.Goals as goal
use Rattle.lw_laws.proofs.Words.{net_values}

pub returns : goal.returns
returns c = λ net order x. (net_values x net, net_values_are net order x)
