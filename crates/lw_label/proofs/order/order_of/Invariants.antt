use Rattle.std.proofs.Common.{ℕ, ◌<◌, ◌≡◌, true, false, [], slice_index_or}
use Rattle.lw_label.specs.Orders.{IsWalk, places_of}
use Rattle.lw_label.proofs.order.order_of.Given as goal

abbrev pub invariant-loop-place : goal.invariant-loop-place
invariant-loop-place l = record {
  walk : IsWalk (places_of l.graph) l.walk;
  left : l.walk.path.items ≡ [];
  entered : (p : ℕ) → p < l.place → slice_index_or l.walk.entered.items p false ≡ true;
}
