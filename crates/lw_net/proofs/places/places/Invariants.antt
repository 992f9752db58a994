use Rattle.lw_net.specs.Written.{ArePlaces}
use Rattle.lw_net.proofs.places.places.Given as goal

abbrev pub invariant-loop-i : goal.invariant-loop-i
invariant-loop-i l = ArePlaces l.count l.i l.signals l.places.items
