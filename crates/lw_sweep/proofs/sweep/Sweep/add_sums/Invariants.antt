use Rattle.lw_sweep.specs.Sweeps.{IsExtended}
use Rattle.lw_sweep.proofs.sweep.Sweep.add_sums.Given as goal

abbrev pub invariant-tasks : goal.invariant-tasks
invariant-tasks l = IsExtended l.fn.self l.self
