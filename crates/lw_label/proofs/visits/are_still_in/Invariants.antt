use Rattle.std.proofs.Common.{ℕ, ◌≡◌, ◌<◌, Some, slice_get}
use Rattle.lw_graph.specs.declared.pair.Pair.{Pair}
use Rattle.lw_label.specs.Orders.{IsStillAt}
use Rattle.lw_label.proofs.visits.are_still_in.Given as goal

abbrev pub invariant-loop-pair : goal.invariant-loop-pair
invariant-loop-pair l =
    (i : ℕ) (q : Pair) → i < l.pair-index → slice_get l.pair-items i ≡ Some q → IsStillAt l.still q.x.0 × IsStillAt l.still q.y.0
