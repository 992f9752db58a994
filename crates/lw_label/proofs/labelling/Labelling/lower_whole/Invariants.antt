use Rattle.std.proofs.Common.{◌≡◌}
use Rattle.lw_label.specs.Lowering.{weight}
use Rattle.lw_label.specs.Searches.{AreFoundAt}
use Rattle.lw_label.proofs.labelling.Labelling.lower_whole.Given as goal

abbrev pub invariant-loop-class : goal.invariant-loop-class
invariant-loop-class g l =
    AreFoundAt g.C.Cost.costs l.task l.fn.self l.self (λ c. c ≡ l.class.0)

abbrev pub decreases-loop-class : goal.decreases-loop-class
decreases-loop-class g l = weight (g.C.Cost.costs l.task.cost.now) l.self.marks.items
