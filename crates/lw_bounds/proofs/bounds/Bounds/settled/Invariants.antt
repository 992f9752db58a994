use Rattle.std.proofs.Common.{◌≡◌}
use Rattle.lw_bounds.specs.Bounds.{BoundsFit, bounds_weight}
use Rattle.lw_bounds.proofs.bounds.Bounds.settled.Given as goal

abbrev pub invariant-loop-basis : goal.invariant-loop-basis
invariant-loop-basis g l =
    (l.table.times ≡ l.initial.table.times) × BoundsFit l.table.bounds l.pats l.graph

abbrev pub decreases-loop-basis : goal.decreases-loop-basis
decreases-loop-basis g l = bounds_weight l.table.bounds
