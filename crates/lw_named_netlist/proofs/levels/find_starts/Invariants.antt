use Rattle.std.proofs.Common.{take}
use Rattle.lw_named_netlist.specs.Numbered.{AreSettled}
use Rattle.lw_named_netlist.proofs.levels.find_starts.Given as goal

abbrev pub invariant-nodes : goal.invariant-nodes
invariant-nodes l = AreSettled l.inputs l.gates l.graph l.levels.heights.items (take l.at l.levels.order.items) l.found.depths.items l.found.starts.items
