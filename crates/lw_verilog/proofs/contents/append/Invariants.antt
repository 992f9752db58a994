use Rattle.std.proofs.Common.{◌≡◌, ◌++◌, take}
use Rattle.lw_verilog.proofs.contents.append.Given as goal

abbrev pub invariant-loop-place : goal.invariant-loop-place
invariant-loop-place l = l.names ≡ l.initial.names ++ take l.place l.more
