use Rattle.std.proofs.Common.{◌<◌}
use Rattle.lw_reduce.proofs.propagate.slot_count.Given as goal

abbrev pub invariant-loop-bit : goal.invariant-loop-bit
invariant-loop-bit l = 0 < l.slots
