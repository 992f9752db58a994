use Rattle.lw_sweep.specs.Sweeps.{IsExtended}
use Rattle.lw_equal.proofs.comparing.lay_more.Given as goal

abbrev pub invariant-sides : goal.invariant-sides
invariant-sides l = IsExtended l.fn.sweep l.sweep
