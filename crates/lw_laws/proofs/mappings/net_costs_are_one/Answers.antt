-- By the lemma.
use Rattle.lw_laws.proofs.NetlistValues.{net_costs_once}
use Rattle.lw_laws.proofs.mappings.net_costs_are_one.Goals as goal

pub returns : goal.returns
returns c = net_costs_once
