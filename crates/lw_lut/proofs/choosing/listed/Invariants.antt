use Rattle.lw_lut.proofs.Sorting.{AreListedBelow}
use Rattle.lw_lut.proofs.choosing.listed.Given as goal

abbrev pub invariant-loop-number : goal.invariant-loop-number
invariant-loop-number l = AreListedBelow l.depths l.number l.places.items
