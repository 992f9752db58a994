use Rattle.std.proofs.Common.{◌≡◌}
use Rattle.lw_label.specs.HeightTables.{with_heights}
use Rattle.lw_label.proofs.HeightPasses.{AreStarted}
use Rattle.lw_label.proofs.heights.Heights.start.Given as goal

abbrev pub invariant-loop-input : goal.invariant-loop-input
invariant-loop-input g l = record {
  started : AreStarted l.given.task.now.graph.now l.given.labels.now l.input l.self.marks.items;
  table : l.self.table ≡ with_heights l.self.marks.items l.initial.self.table;
  tops : l.self.tops.now ≡ l.initial.self.tops.now;
}
