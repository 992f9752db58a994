use Rattle.std.proofs.Common.{◌≡◌, take}
use Rattle.lw_named_netlist.proofs.spelled.spelled.Given as goal

abbrev pub invariant-loop-pin : goal.invariant-loop-pin
invariant-loop-pin l = l.done ≡ record { cell = l.gate.cell; pins = take l.pin-index l.gate.pins; out = l.gate.out }
