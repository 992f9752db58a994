-- By the lemma.
use Rattle.lw_laws.proofs.NetlistOnce.{netlist_once}
use Rattle.lw_laws.proofs.mappings.netlists_are_one.Goals as goal

pub returns : goal.returns
returns c = netlist_once
