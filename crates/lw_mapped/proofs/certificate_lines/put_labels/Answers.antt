use Rattle.std.proofs.Common.{sym, subst}
use Rattle.lw_mapped.proofs.TextParts.{labels_more}
use Rattle.lw_io.specs.Writers.{Writes}
use Rattle.lw_io.proofs.Putting.{Writes-both}
use Rattle.lw_mapped.proofs.certificate_lines.put_labels.Goals as goal

pub loop-class-preserved : goal.loop-class-preserved
loop-class-preserved g c = subst (λ l. Writes g.S.Sink.taken g.S.Sink.faults c.args.out.now c.put_optional_label.new.out l) (sym (labels_more c.args.labels.now c.loop-class.class c.loop-class-test.true)) (Writes-both c.loop-class.invariant c.put_optional_label.ensures)
