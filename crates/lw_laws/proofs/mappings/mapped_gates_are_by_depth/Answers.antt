-- By the lemma.
use Rattle.lw_laws.proofs.NetlistOf.{netlist_by_depth}
use Rattle.lw_laws.proofs.mappings.mapped_gates_are_by_depth.Goals as goal

pub returns : goal.returns
returns c = netlist_by_depth
