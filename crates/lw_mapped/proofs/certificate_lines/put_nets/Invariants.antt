use Rattle.std.proofs.Common.{take}
use Rattle.lw_io.specs.Writers.{Writes}
use Rattle.lw_mapped.specs.Texts.{net_lines}
use Rattle.lw_mapped.proofs.certificate_lines.put_nets.Given as goal

abbrev pub invariant-loop-g : goal.invariant-loop-g
invariant-loop-g g l = Writes g.S.Sink.taken g.S.Sink.faults l.initial.out l.out (net_lines l.names (take l.g l.gates) (take l.g l.classes))
