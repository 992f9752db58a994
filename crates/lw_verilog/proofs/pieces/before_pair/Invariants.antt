use Rattle.std.proofs.Common.{◌≡◌, ◌+◌, drop}
use Rattle.lw_verilog.specs.Pieces.{before_pair}
use Rattle.lw_verilog.proofs.pieces.before_pair.Given as goal

abbrev pub invariant-loop-place : goal.invariant-loop-place
invariant-loop-place l = before_pair l.first l.second l.bytes ≡ l.place + before_pair l.first l.second (drop l.place l.bytes)
