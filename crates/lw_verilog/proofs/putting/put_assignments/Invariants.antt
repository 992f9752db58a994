use Rattle.std.proofs.Common.{take}
use Rattle.std.specs.List.{flat_map}
use Rattle.lw_io.specs.Writers.{Writes}
use Rattle.lw_verilog.specs.Texts.{assignment_text}
use Rattle.lw_verilog.proofs.putting.put_assignments.Given as goal

abbrev pub invariant-loop-port : goal.invariant-loop-port
invariant-loop-port g l = Writes g.S.Sink.taken g.S.Sink.faults l.initial.out l.out (flat_map (assignment_text l.names) (take l.port-index l.ports))
