use Rattle.std.proofs.Common.{◌≡◌, ◌++◌, map, take, drop}
use Rattle.lw_mapped.specs.GateLines.{net_for}
use Rattle.lw_mapped.proofs.ties.push_pins.Given as goal

abbrev pub invariant-loop-pin : goal.invariant-loop-pin
invariant-loop-pin l = l.gate ≡ record {
  cell = l.initial.gate.cell;
  pins = l.initial.gate.pins ++ map (net_for (drop 2 l.words)) (take l.pin-index l.pins);
  out = l.initial.gate.out;
}
