use Rattle.std.proofs.Common.{◌≡◌, length}
use Rattle.lw_lut.proofs.start.no_cuts.Given as goal

abbrev pub invariant-loop : goal.invariant-loop
invariant-loop l = length l.cuts.items ≡ l.counter
