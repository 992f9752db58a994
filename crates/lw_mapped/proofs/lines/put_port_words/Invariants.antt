use Rattle.std.proofs.Common.{◌∷◌, take}
use Rattle.std.specs.List.{flat_map}
use Rattle.lw_netlist.specs.declared.gate.Port.{Port}
use Rattle.lw_io.specs.Writers.{Writes}
use Rattle.lw_mapped.proofs.lines.put_port_words.Given as goal

abbrev pub invariant-loop-port : goal.invariant-loop-port
invariant-loop-port g l = Writes g.S.Sink.taken g.S.Sink.faults l.initial.out l.out (flat_map (λ (port : Port). 32 ∷ port.name) (take l.port-index l.ports))
