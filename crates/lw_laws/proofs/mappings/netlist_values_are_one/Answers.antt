-- By the lemma.
use Rattle.lw_laws.proofs.NetlistValues.{netlist_values_once}
use Rattle.lw_laws.proofs.mappings.netlist_values_are_one.Goals as goal

pub returns : goal.returns
returns c = netlist_values_once
