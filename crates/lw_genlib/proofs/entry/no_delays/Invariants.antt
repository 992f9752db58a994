use Rattle.std.proofs.Common.{◌≡◌, None}
use Rattle.std.specs.Prelude.{replicate}
use Rattle.lw_genlib.proofs.entry.no_delays.Given as goal

abbrev pub invariant-loop : goal.invariant-loop
invariant-loop l = l.delays.items ≡ replicate l.counter None
