use Rattle.lw_settle.specs.Settling.{HasRead}
use Rattle.lw_settle.proofs.settling.read_uses.Given as goal

abbrev pub invariant-loop-n : goal.invariant-loop-n
invariant-loop-n g l =
    HasRead (g.C.Cost.costs l.cost) l.initial.store l.store l.class.0 0 l.n l.marks l.initial.queue l.queue l.initial.left l.left
