use Rattle.lw_extract.proofs.Sorting.{AreMarkedBelow}
use Rattle.lw_extract.proofs.ordering.by_height.Given as goal

abbrev pub invariant-loop-number : goal.invariant-loop-number
invariant-loop-number l = AreMarkedBelow l.nets l.marks l.number l.places.items
