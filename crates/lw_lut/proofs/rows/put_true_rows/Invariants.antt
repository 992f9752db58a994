use Rattle.lw_io.specs.Writers.{Writes}
use Rattle.lw_lut.specs.Texts.{rows_from}
use Rattle.lw_lut.proofs.rows.put_true_rows.Given as goal

abbrev pub invariant-loop-place : goal.invariant-loop-place
invariant-loop-place g l = Writes g.S.Sink.taken g.S.Sink.faults l.initial.out l.out (rows_from l.small.table.now 0 l.place)
