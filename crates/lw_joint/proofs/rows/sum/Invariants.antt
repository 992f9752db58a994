use Rattle.lw_sweep.specs.Sweeps.{IsExtended}
use Rattle.lw_joint.proofs.Columns.{IsSumTo}
use Rattle.lw_joint.proofs.rows.sum.Given as goal

abbrev pub invariant-rows : goal.invariant-rows
invariant-rows l = record { grown : IsExtended l.fn.sweep l.sweep; sum : IsSumTo l.sweep l.literals l.fanins l.rows l.cube-index l.some }
