use Rattle.std.proofs.Common.{◌∷◌, ◌∙◌, subst}
use Rattle.lw_io.specs.Writers.{Writes}
use Rattle.lw_io.proofs.Putting.{Writes-both}
use Rattle.lw_mapped.proofs.certificate_lines.put_net.Goals as goal

pub returns : goal.returns
returns g c =
    let class = subst (λ w. Writes g.S.Sink.taken g.S.Sink.faults c.put_word.new.out c.put_word-2.new.out (32 ∷ w)) (c.as_bytes.ensures.value ∙ c.format.ensures.text) c.put_word-2.ensures in
    Writes-both c.put.ensures (Writes-both c.put_word.ensures (Writes-both class c.put-2.ensures))
