use Rattle.std.proofs.Common.{◌∷◌, subst}
use Rattle.lw_io.specs.Writers.{Writes}
use Rattle.lw_io.proofs.Putting.{Writes-both}
use Rattle.lw_mapped.proofs.frames.put_arrival.Goals as goal

pub returns : goal.returns
returns g c =
    let rise = subst (λ w. Writes g.S.Sink.taken g.S.Sink.faults c.put_word.new.out c.put_word-2.new.out (32 ∷ w)) c.print-count.ensures.text c.put_word-2.ensures in
    let fall = subst (λ w. Writes g.S.Sink.taken g.S.Sink.faults c.put_word-2.new.out c.put_word-3.new.out (32 ∷ w)) c.print-count.ensures.text c.put_word-3.ensures in
    Writes-both c.put.ensures (Writes-both c.put_word.ensures (Writes-both rise (Writes-both fall c.put-2.ensures)))
