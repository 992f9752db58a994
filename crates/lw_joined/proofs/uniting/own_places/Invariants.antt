use Rattle.std.proofs.Common.{◌≡◌}
use Rattle.lw_joined.specs.Unions.{places_from}
use Rattle.lw_joined.proofs.uniting.own_places.Given as goal

abbrev pub invariant-loop-place : goal.invariant-loop-place
invariant-loop-place l = l.places.items ≡ places_from 0 l.place
