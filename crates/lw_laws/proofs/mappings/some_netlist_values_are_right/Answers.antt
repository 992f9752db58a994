-- By the lemma.
use Rattle.lw_laws.proofs.NetlistValues.{some_netlist_values}
use Rattle.lw_laws.proofs.mappings.some_netlist_values_are_right.Goals as goal

pub returns : goal.returns
returns c = some_netlist_values
