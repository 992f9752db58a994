use Rattle.std.proofs.Common.{◌≡◌, replicate}
use Rattle.lw_net.proofs.places.empty.Given as goal

abbrev pub invariant-loop-made : goal.invariant-loop-made
invariant-loop-made l = l.places.items ≡ replicate l._made 0
