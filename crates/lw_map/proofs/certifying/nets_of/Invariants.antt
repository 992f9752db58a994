use Rattle.std.proofs.Common.{◌≡◌, Some, map, take}
use Rattle.lw_map.proofs.certifying.nets_of.Given as goal

abbrev pub invariant-loop-class : goal.invariant-loop-class
invariant-loop-class l = l.nets.items ≡ map Some (take l.class-index l.classes)
