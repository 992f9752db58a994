use Rattle.lw_sweep.specs.Sweeps.{IsExtended}
use Rattle.lw_joint.proofs.Columns.{IsRowTo}
use Rattle.lw_joint.proofs.rows.row.Given as goal

abbrev pub invariant-columns : goal.invariant-columns
invariant-columns l = record { grown : IsExtended l.fn.sweep l.sweep; row : IsRowTo l.sweep l.literals l.fanins l.row l.i l.all }
