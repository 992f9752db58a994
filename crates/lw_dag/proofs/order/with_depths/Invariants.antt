use Rattle.std.proofs.Common.{◌≡◌, ◌++◌, map, drop}
use Rattle.std.specs.List.{zip}
use Rattle.std.specs.Vec.Iter.{into_iter_items}
use Rattle.lw_dag.proofs.Sorting.{deep_from}
use Rattle.lw_dag.proofs.order.with_depths.Given as goal

abbrev pub invariant-loop-depth : goal.invariant-loop-depth
invariant-loop-depth g l = l.deep.items ++ map deep_from (zip (into_iter_items l.left) (drop l.depth-index l.depths)) ≡ map deep_from (zip l.fn.items.items l.depths)
