use Rattle.std.proofs.Common.{◌≡◌}
use Rattle.lw_label.specs.Searches.{AreFirstRounds}
use Rattle.lw_label.proofs.labelling.LabelRounds.label_places.Given as goal

abbrev pub invariant-loop-number : goal.invariant-loop-number
invariant-loop-number g l = record {
  order : l.self.visits.order ≡ l.initial.self.visits.order;
  first : AreFirstRounds g.C.Cost.costs l.task l.self;
}
