use Rattle.std.proofs.Common.{◌≡◌, ◌≤◌}
use Rattle.lw_label.specs.Heights.{heights_weight}
use Rattle.lw_label.specs.HeightTables.{AreHeightRounds}
use Rattle.lw_label.proofs.heights.HeightRounds.lower_rounds.Given as goal

abbrev pub invariant-loop : goal.invariant-loop
invariant-loop g l = record {
  order : l.self.visits.order ≡ l.initial.self.visits.order;
  rounds : AreHeightRounds g.C.Cost.costs l.given l.self;
  low : heights_weight l.self.heights.marks.items ≤ heights_weight l.initial.self.heights.marks.items;
}

abbrev pub decreases-loop : goal.decreases-loop
decreases-loop g l = heights_weight l.self.heights.marks.items
