use Rattle.std.proofs.Common.{◌≡◌}
use Rattle.lw_bounds.proofs.Passes.{ArePassed}
use Rattle.lw_bounds.proofs.settling.renew_round.Given as goal

abbrev pub invariant-loop-number : goal.invariant-loop-number
invariant-loop-number l =
    (l.table.times ≡ l.initial.table.times) × ArePassed l.basis.pats.now l.basis.graph.now l.basis.marks.now l.whole l.initial.table.bounds l.table.bounds l.number l.fell
