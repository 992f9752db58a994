use Rattle.std.proofs.Common.{sym, subst}
use Rattle.lw_io.specs.Writers.{Writes}
use Rattle.lw_io.proofs.Putting.{Writes-both}
use Rattle.lw_lut.proofs.Pieces.{row_is}
use Rattle.lw_lut.proofs.rows.put_row.Goals as goal

pub returns : goal.returns
returns g c =
    let digits = subst (λ l. Writes g.S.Sink.taken g.S.Sink.faults c.args.out.now c.put-2.new.self l) c.binary.ensures c.put-2.ensures in
    subst (λ l. Writes g.S.Sink.taken g.S.Sink.faults c.args.out.now c.put-3.new.self l) (sym (row_is c.args.bits.count c.args.place c.if-count-eq0.false)) (Writes-both digits c.put-3.ensures)
