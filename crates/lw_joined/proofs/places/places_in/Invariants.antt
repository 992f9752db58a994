use Rattle.std.proofs.Common.{take}
use Rattle.lw_joined.specs.Places.{ArePlacesOf}
use Rattle.lw_joined.proofs.places.places_in.Given as goal

abbrev pub invariant-loop-name : goal.invariant-loop-name
invariant-loop-name l = ArePlacesOf l.all.keys (take l.name-index l.names) l.places.items
