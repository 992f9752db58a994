use Rattle.std.proofs.Common.{◌≡◌, map, take}
use Rattle.lw_trade.specs.Placed.{placed_gate}
use Rattle.lw_trade.proofs.assembly.gates_of.Given as goal

abbrev pub invariant-loop-gate : goal.invariant-loop-gate
invariant-loop-gate l = l.gates.items ≡ map (placed_gate l.at.inputs l.at.places.now l.at.walk.now.cells.items l.at.walk.now.pins.items) (take l.gate-index l.order)
