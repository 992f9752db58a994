use Rattle.lw_label.specs.Lowering.{Lowers}
use Rattle.lw_label.specs.Orders.{IsPassed}
use Rattle.lw_label.specs.Searches.{AreRoundsAfter, state_of}
use Rattle.lw_label.proofs.labelling.LabelRounds.lower_round.Given as goal

abbrev pub invariant-loop-number : goal.invariant-loop-number
invariant-loop-number g l = record {
  after : AreRoundsAfter g.C.Cost.costs l.task l.initial.self l.self;
  lowers : Lowers l.task.graph.now (g.C.Cost.costs l.task.cost.now) l.task.pats.now (state_of l.initial.self.labelling) (state_of l.self.labelling) (IsPassed l.whole l.initial.self.visits.order l.number) l.changed;
}
