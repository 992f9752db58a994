use Rattle.lw_label.specs.Lowering.{state_weight}
use Rattle.lw_label.specs.Searches.{AreRounds, state_of}
use Rattle.lw_label.proofs.labelling.LabelRounds.lower_all.Given as goal

abbrev pub invariant-loop : goal.invariant-loop
invariant-loop g l = AreRounds g.C.Cost.costs l.task l.self

abbrev pub decreases-loop : goal.decreases-loop
decreases-loop g l = state_weight (g.C.Cost.costs l.task.cost.now) (state_of l.self.labelling)
