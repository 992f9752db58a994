use Rattle.std.proofs.Common.{◌≡◌, ◌++◌, take}
use Rattle.lw_verilog.proofs.contents.append_header.Given as goal

abbrev pub invariant-loop-place : goal.invariant-loop-place
invariant-loop-place l = l.header ≡ l.initial.header ++ take l.place l.more
