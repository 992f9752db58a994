use Rattle.std.proofs.Common.{◌≡◌, ◌-◌, [], length}
use Rattle.lw_cost.specs.Labels.{marked}
use Rattle.lw_settle.specs.Settling.{IsReading, IsReadingSome, Stage}
use Rattle.lw_settle.proofs.settling.settle_classes.Given as goal

abbrev pub invariant-loop-taken : goal.invariant-loop-taken
invariant-loop-taken g l = record {
  lists : l.store.lists ≡ l.initial.store.lists;
  reading : (s : Stage) → IsReading (g.C.Cost.costs l.cost) l.initial.store.lists s [] l.initial.store.done l.initial.marks l.initial.queue l.initial.left → IsReadingSome (g.C.Cost.costs l.cost) l.store.lists s.graph s.start l.store.done l.marks l.queue l.left;
}

abbrev pub decreases-loop-taken : goal.decreases-loop-taken
decreases-loop-taken g l = length l.marks - marked l.marks
