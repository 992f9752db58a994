use Rattle.std.proofs.Common.{◌≡◌, length}
use Rattle.lw_equal.proofs.small.numbered.Given as goal

abbrev pub invariant-loop-input : goal.invariant-loop-input
invariant-loop-input l = length l.found.items ≡ l.input
