use Rattle.std.proofs.Common.{◌∷◌, subst}
use Rattle.lw_io.specs.Writers.{Writes}
use Rattle.lw_io.proofs.Putting.{Writes-both}
use Rattle.lw_report.proofs.lines.put_last.Goals as goal

pub returns : goal.returns
returns g c =
    let value = subst (λ w. Writes g.S.Sink.taken g.S.Sink.faults c.args.out.now c.put_word.new.out (32 ∷ w)) c.print-count.ensures.text c.put_word.ensures in
    Writes-both value c.put.ensures
