use Rattle.std.proofs.Common.{◌≡◌, map, take}
use Rattle.lw_trade.specs.Placed.{placed_net}
use Rattle.lw_trade.proofs.assembly.gate_of.Given as goal

abbrev pub invariant-loop-pin : goal.invariant-loop-pin
invariant-loop-pin l = l.nets.items ≡ map (λ p. record { 0 = placed_net l.at.inputs l.at.places.now p }) (take l.pin-index l.row)
