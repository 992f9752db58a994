use Rattle.std.proofs.Common.{◌∷◌, ◌∙◌, subst}
use Rattle.lw_io.specs.Writers.{Writes}
use Rattle.lw_io.proofs.Putting.{Writes-both}
use Rattle.lw_report.proofs.report.put_cell.Goals as goal

pub returns : goal.returns
returns g c =
    let cell = subst (λ w. Writes g.S.Sink.taken g.S.Sink.faults c.put_word.new.out c.put_word-2.new.out (32 ∷ w)) (c.as_bytes.ensures.bytes ∙ c.name.ensures) c.put_word-2.ensures in
    let pin = subst (λ w. Writes g.S.Sink.taken g.S.Sink.faults c.put_word-2.new.out c.put_word-3.new.out (32 ∷ w)) c.pin_name.ensures c.put_word-3.ensures in
    Writes-both c.put.ensures (Writes-both c.put_word.ensures (Writes-both cell (Writes-both pin c.put_last.ensures)))
