use Rattle.std.proofs.Common.{◌≡◌, Some, map, take}
use Rattle.lw_extract.specs.Nets.{net_in}
use Rattle.lw_extract.proofs.gates.nets_of.Given as goal

abbrev pub invariant-loop-class : goal.invariant-loop-class
invariant-loop-class l = map Some l.found.items ≡ map (net_in l.nets) (take l.class-index l.classes)
