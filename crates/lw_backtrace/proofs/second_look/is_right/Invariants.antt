use Rattle.std.proofs.Common.{◌<◌, ℕ}
use Rattle.lw_backtrace.specs.SecondLook.{IsGateRight}
use Rattle.lw_backtrace.proofs.second_look.is_right.Given as goal

abbrev pub invariant-loop-j : goal.invariant-loop-j
invariant-loop-j l = (i : ℕ) → i < l.j → IsGateRight l.plan l.trail i
