use Rattle.std.proofs.Common.{◌≡◌}
use Rattle.lw_label.specs.Heights.{LowersFrom}
use Rattle.lw_label.specs.HeightTables.{AreHeightRounds}
use Rattle.lw_label.specs.Orders.{IsPassed}
use Rattle.lw_label.proofs.heights.HeightRounds.lower_round.Given as goal

abbrev pub invariant-loop-number : goal.invariant-loop-number
invariant-loop-number g l = record {
  order : l.self.visits.order ≡ l.initial.self.visits.order;
  rounds : AreHeightRounds g.C.Cost.costs l.given l.self;
  lowers : LowersFrom (g.C.Cost.costs l.given.task.now.cost.now) l.given l.initial.self.heights.marks.items l.self.heights.marks.items (IsPassed l.whole l.initial.self.visits.order l.number) l.changed;
}
