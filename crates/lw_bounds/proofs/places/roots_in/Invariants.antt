use Rattle.lw_bounds.specs.Places.{AreListed}
use Rattle.lw_bounds.proofs.places.roots_in.Given as goal

abbrev pub invariant-loop-number : goal.invariant-loop-number
invariant-loop-number l = AreListed l.sides l.list l.roots.items l.number
