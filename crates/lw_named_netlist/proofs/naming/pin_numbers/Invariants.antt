use Rattle.std.proofs.Common.{◌≡◌, map, take, drop}
use Rattle.lw_named_netlist.specs.Closing.{undriven_in}
use Rattle.lw_dag.specs.Names.{number_in}
use Rattle.lw_named_netlist.proofs.naming.pin_numbers.Given as goal

abbrev pub invariant-loop-place : goal.invariant-loop-place
invariant-loop-place l = record {
  so_far : l.numbers.items ≡ map (number_in l.signals) (take l.place l.gate.pins);
  rest : undriven_in l.signals (drop l.place l.gate.pins) ≡ undriven_in l.signals l.gate.pins;
}
