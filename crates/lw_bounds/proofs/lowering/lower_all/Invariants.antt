use Rattle.lw_bounds.proofs.Lessening.{HaveFallen}
use Rattle.lw_bounds.proofs.SideRows.{AreLowBy}
use Rattle.lw_bounds.proofs.lowering.lower_all.Given as goal

abbrev pub invariant-loop-number : goal.invariant-loop-number
invariant-loop-number l = record {
  low : AreLowBy l.plan.groups.now l.one l.other l.initial.least l.least l.number;
  fallen : HaveFallen l.initial.least l.least l.fell;
}
