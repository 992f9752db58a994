use Rattle.std.proofs.Common.{◌≡◌, map, take}
use Rattle.lw_net.specs.Unions.{placed_in}
use Rattle.lw_net.proofs.joining.Place.nets.Given as goal

abbrev pub invariant-loop-net : goal.invariant-loop-net
invariant-loop-net l = l.placed.items ≡ map (placed_in l.self) (take l.net-index l.nets)
