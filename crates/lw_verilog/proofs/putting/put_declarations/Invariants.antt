use Rattle.std.proofs.Common.{take}
use Rattle.std.specs.List.{flat_map}
use Rattle.lw_io.specs.Writers.{Writes}
use Rattle.lw_verilog.specs.Texts.{declaration}
use Rattle.lw_verilog.proofs.putting.put_declarations.Given as goal

abbrev pub invariant-loop-name : goal.invariant-loop-name
invariant-loop-name g l = Writes g.S.Sink.taken g.S.Sink.faults l.initial.out l.out (flat_map (declaration l.keyword) (take l.name-index l.names))
