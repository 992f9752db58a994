use Rattle.lw_bounds.proofs.Rowing.{AreStartsBelow}
use Rattle.lw_bounds.proofs.making.starts_of.Given as goal

abbrev pub invariant-loop-number : goal.invariant-loop-number
invariant-loop-number l =
    AreStartsBelow l.width l.starts.items l.size l.graph l.number
