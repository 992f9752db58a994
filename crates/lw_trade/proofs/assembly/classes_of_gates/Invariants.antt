use Rattle.std.proofs.Common.{◌≡◌}
use Rattle.std.specs.List.{range_with_len}
use Rattle.lw_trade.proofs.assembly.classes_of_gates.Given as goal
use Rattle.lw_pool.specs.Numbers.{numbers}

abbrev pub invariant-loop-gate : goal.invariant-loop-gate
invariant-loop-gate l = numbers l.classes.items ≡ range_with_len l.inputs l.gate
