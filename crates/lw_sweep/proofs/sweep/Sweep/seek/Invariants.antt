use Rattle.std.proofs.Common.{◌≡◌}
use Rattle.lw_sweep.proofs.sweep.Sweep.seek.Given as goal

abbrev pub invariant-loop : goal.invariant-loop
invariant-loop l = l.self ≡ l.fn.self
