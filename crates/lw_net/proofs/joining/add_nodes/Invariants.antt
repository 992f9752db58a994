use Rattle.std.proofs.Common.{◌≡◌, ◌++◌, map, take}
use Rattle.lw_net.specs.Unions.{placed_node_in}
use Rattle.lw_net.proofs.joining.add_nodes.Given as goal

abbrev pub invariant-loop-node : goal.invariant-loop-node
invariant-loop-node l = l.nodes.items ≡ l.fn.nodes.items ++ map (placed_node_in l.place) (take l.node-index l.others)
