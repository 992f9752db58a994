use Rattle.lw_label.specs.Heights.{heights_weight}
use Rattle.lw_label.specs.HeightTables.{AreHeightRounds}
use Rattle.lw_label.proofs.heights.HeightRounds.lower_all.Given as goal

abbrev pub invariant-loop : goal.invariant-loop
invariant-loop g l = AreHeightRounds g.C.Cost.costs l.given l.self

abbrev pub decreases-loop : goal.decreases-loop
decreases-loop g l = heights_weight l.self.heights.marks.items
