use Rattle.std.proofs.Common.{◌≡◌, map, take, drop}
use Rattle.lw_named_netlist.specs.Closing.{undriven_in}
use Rattle.lw_dag.specs.Names.{number_in}
use Rattle.lw_named_netlist.proofs.naming.numbers_of.Given as goal

abbrev pub invariant-loop-name : goal.invariant-loop-name
invariant-loop-name l = record {
  so_far : l.numbers.items ≡ map (number_in l.signals) (take l.name-index l.names);
  rest : undriven_in l.signals (drop l.name-index l.names) ≡ undriven_in l.signals l.names;
}
