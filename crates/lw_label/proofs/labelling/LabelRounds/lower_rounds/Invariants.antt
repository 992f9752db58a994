use Rattle.std.proofs.Common.{◌≤◌}
use Rattle.lw_label.specs.Lowering.{state_weight}
use Rattle.lw_label.specs.Searches.{AreRoundsAfter, state_of}
use Rattle.lw_label.proofs.labelling.LabelRounds.lower_rounds.Given as goal

abbrev pub invariant-loop : goal.invariant-loop
invariant-loop g l = record {
  after : AreRoundsAfter g.C.Cost.costs l.task l.initial.self l.self;
  low : state_weight (g.C.Cost.costs l.task.cost.now) (state_of l.self.labelling) ≤ state_weight (g.C.Cost.costs l.task.cost.now) (state_of l.initial.self.labelling);
}

abbrev pub decreases-loop : goal.decreases-loop
decreases-loop g l = state_weight (g.C.Cost.costs l.task.cost.now) (state_of l.self.labelling)
