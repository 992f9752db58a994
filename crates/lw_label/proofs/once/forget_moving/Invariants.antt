use Rattle.lw_bounds.specs.Bounds.{IsTableBut}
use Rattle.lw_label.specs.Orders.{IsStillAt}
use Rattle.lw_label.proofs.once.forget_moving.Given as goal

abbrev pub invariant-loop-number : goal.invariant-loop-number
invariant-loop-number l =
    IsTableBut (λ c. IsStillAt l.visits.still c → ⊥) l.initial.bounds l.bounds
