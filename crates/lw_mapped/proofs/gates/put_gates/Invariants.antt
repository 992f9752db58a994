use Rattle.std.proofs.Common.{take}
use Rattle.std.specs.List.{flat_map}
use Rattle.lw_io.specs.Writers.{Writes}
use Rattle.lw_mapped.specs.Texts.{gate_text}
use Rattle.lw_mapped.proofs.gates.put_gates.Given as goal

abbrev pub invariant-loop-gate : goal.invariant-loop-gate
invariant-loop-gate g l = Writes g.S.Sink.taken g.S.Sink.faults l.initial.out l.out (flat_map (gate_text l.lib l.names) (take l.gate-index l.gates))
