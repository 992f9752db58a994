use Rattle.std.proofs.Common.{sym, subst}
use Rattle.lw_io.specs.Writers.{Writes}
use Rattle.lw_io.proofs.Putting.{Writes-both}
use Rattle.lw_lut.proofs.Pieces.{rows_more}
use Rattle.lw_lut.proofs.rows.put_true_rows.Goals as goal

pub loop-place-preserved : goal.loop-place-preserved
loop-place-preserved g c = subst (λ l. Writes g.S.Sink.taken g.S.Sink.faults c.args.out.now c.put_row_at.new.out l) (sym (rows_more c.args.small.now.table.now c.loop-place.place)) (Writes-both c.loop-place.invariant c.put_row_at.ensures)
