use Rattle.std.proofs.Common.{◌≡◌, ◌≤◌}
use Rattle.lw_bounds.specs.Bounds.{BoundsFit, bounds_weight}
use Rattle.lw_bounds.proofs.settling.renew_rounds.Given as goal

abbrev pub invariant-loop : goal.invariant-loop
invariant-loop l =
    (l.table.times ≡ l.initial.table.times) × BoundsFit l.table.bounds l.basis.pats.now l.basis.graph.now × (bounds_weight l.table.bounds ≤ bounds_weight l.initial.table.bounds)

abbrev pub decreases-loop : goal.decreases-loop
decreases-loop l = bounds_weight l.table.bounds
