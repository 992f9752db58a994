use Rattle.std.proofs.Common.{◌≡◌, ◌++◌, map, take}
use Rattle.lw_verilog.specs.Statements.{net_for, ties_in}
use Rattle.lw_verilog.proofs.gates.push_pins.Given as goal

abbrev pub invariant-loop-pin : goal.invariant-loop-pin
invariant-loop-pin l = l.gate ≡ record {
  cell = l.initial.gate.cell;
  pins = l.initial.gate.pins ++ map (net_for (ties_in l.names)) (take l.pin-index l.pins);
  out = l.initial.gate.out;
}
