use Rattle.std.proofs.Common.{take}
use Rattle.lw_io.specs.Writers.{Writes}
use Rattle.lw_mapped.specs.Texts.{label_lines}
use Rattle.lw_mapped.proofs.certificate_lines.put_labels.Given as goal

abbrev pub invariant-loop-class : goal.invariant-loop-class
invariant-loop-class g l = Writes g.S.Sink.taken g.S.Sink.faults l.initial.out l.out (label_lines 0 (take l.class l.labels))
