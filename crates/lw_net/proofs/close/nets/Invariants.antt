use Rattle.std.proofs.Common.{◌≡◌, map, take}
use Rattle.lw_net.specs.Written.{net_placed}
use Rattle.lw_net.proofs.close.nets.Given as goal

abbrev pub invariant-loop-number : goal.invariant-loop-number
invariant-loop-number l = l.nets.items ≡ map (net_placed l.places) (take l.number-index l.list)
