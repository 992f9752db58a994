use Rattle.std.proofs.Common.{take}
use Rattle.lw_equal.specs.Laid.{ArePlaces}
use Rattle.lw_equal.proofs.placing.places_in.Given as goal

abbrev pub invariant-loop-name : goal.invariant-loop-name
invariant-loop-name l = ArePlaces l.all.keys (take l.name-index l.names) l.places.items
