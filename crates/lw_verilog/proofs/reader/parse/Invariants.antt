use Rattle.std.proofs.Common.{length}
use Rattle.lw_verilog.proofs.Parsing.{Stands}
use Rattle.lw_verilog.proofs.reader.parse.Given as goal

abbrev pub invariant-loop-rest : goal.invariant-loop-rest
invariant-loop-rest l = Stands l.lib l.text l.contents l.line l.rest

abbrev pub decreases-loop-rest : goal.decreases-loop-rest
decreases-loop-rest l = length l.rest
