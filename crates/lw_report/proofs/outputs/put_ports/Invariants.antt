use Rattle.std.proofs.Common.{false, [], ◌∷◌, take, slice_index_or}
use Rattle.std.specs.List.{flat_map}
use Rattle.lw_netlist.specs.declared.gate.Port.{Port}
use Rattle.lw_io.specs.Writers.{Writes}
use Rattle.lw_report.specs.Blocks.{bits_at}
use Rattle.lw_report.specs.Simulated.{digit}
use Rattle.lw_report.proofs.outputs.put_ports.Given as goal

abbrev pub invariant-loop-port : goal.invariant-loop-port
invariant-loop-port g l = Writes g.S.Sink.taken g.S.Sink.faults l.initial.out l.out (flat_map (λ (port : Port). digit (slice_index_or (bits_at l.k l.nets) port.net.0 false) ∷ []) (take l.port-index l.outputs))
