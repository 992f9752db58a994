-- By the lemma.
use Rattle.lw_laws.proofs.NetlistValues.{some_net_costs}
use Rattle.lw_laws.proofs.mappings.some_net_costs_are_right.Goals as goal

pub returns : goal.returns
returns c = some_net_costs
