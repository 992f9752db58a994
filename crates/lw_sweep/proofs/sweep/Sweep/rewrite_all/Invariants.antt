use Rattle.lw_sweep.specs.Sweeps.{IsExtended}
use Rattle.lw_sweep.proofs.sweep.Sweep.rewrite_all.Given as goal

abbrev pub invariant-inner : goal.invariant-inner
invariant-inner l = IsExtended l.fn.self l.self
