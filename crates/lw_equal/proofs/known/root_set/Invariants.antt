use Rattle.std.proofs.Common.{◌≡◌, take}
use Rattle.lw_equal.specs.Sides.{root_names}
use Rattle.lw_equal.proofs.known.root_set.Given as goal

abbrev pub invariant-loop-place : goal.invariant-loop-place
invariant-loop-place l = l.set.keys ≡ take l.place (root_names l.logic)
