use Rattle.std.proofs.Common.{take}
use Rattle.std.specs.List.{flat_map}
use Rattle.lw_io.specs.Writers.{Writes}
use Rattle.lw_mapped.specs.Texts.{wire_text}
use Rattle.lw_mapped.proofs.gates.put_wires.Given as goal

abbrev pub invariant-loop-port : goal.invariant-loop-port
invariant-loop-port g l = Writes g.S.Sink.taken g.S.Sink.faults l.initial.out l.out (flat_map (wire_text l.names) (take l.port-index l.ports))
