use Rattle.lw_bounds.specs.Numbers.{reading}
use Rattle.lw_bounds.proofs.Lessening.{HaveFallen}
use Rattle.lw_bounds.proofs.SideRows.{AreLeastBy}
use Rattle.lw_bounds.proofs.lowering.lower_by_all.Given as goal

abbrev pub invariant-loop-pair : goal.invariant-loop-pair
invariant-loop-pair l = record {
  least : AreLeastBy (reading l.at) l.plan.parts.now l.pairs l.initial.least l.least l.pair-index;
  fallen : HaveFallen l.initial.least l.least l.fell;
}
