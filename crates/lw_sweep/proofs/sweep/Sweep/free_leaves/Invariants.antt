use Rattle.lw_sweep.specs.Sweeps.{IsExtended}
use Rattle.lw_sweep.proofs.sweep.Sweep.free_leaves.Given as goal

abbrev pub invariant-leaves : goal.invariant-leaves
invariant-leaves l = IsExtended l.fn.self l.self
