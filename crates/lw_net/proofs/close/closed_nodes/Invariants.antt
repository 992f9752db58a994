use Rattle.std.proofs.Common.{◌≡◌, ◌++◌, map, length, All}
use Rattle.std.specs.Vec.Iter.{into_iter_items}
use Rattle.lw_net.specs.Written.{placed_node, IsWithin}
use Rattle.lw_net.proofs.close.closed_nodes.Given as goal

abbrev pub invariant-nodes : goal.invariant-nodes
invariant-nodes l = record {
  so_far : l.done.items ++ map (placed_node l.places) (into_iter_items l.left) ≡ map (placed_node l.places) l.fn.nodes.items;
  within : All (IsWithin (length l.places)) (into_iter_items l.left);
}

abbrev pub decreases-nodes : goal.decreases-nodes
decreases-nodes l = length (into_iter_items l.left)
