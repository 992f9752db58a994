use Rattle.std.proofs.Common.{◌≡◌, ◌≤◌, ◌<◌, ℕ, List, Some, slice_get}
use Rattle.lw_queue.specs.Queues.{Item, HaveLess}
use Rattle.lw_queue.proofs.lanes.take_in.Given as goal

abbrev pub invariant-loop-lane : goal.invariant-loop-lane
invariant-loop-lane l = record {
  same : l.lanes.items ≡ l.initial.lanes.items;
  less : (i : ℕ) (lane : List Item) → l.first ≤ i → i < l.lane → slice_get l.initial.lanes.items i ≡ Some lane → HaveLess lane l.left;
}
