use Rattle.std.proofs.Common.{◌≡◌, map, take}
use Rattle.lw_trade.specs.Placed.{placed_net}
use Rattle.lw_trade.specs.Traded.{port_net}
use Rattle.lw_trade.proofs.assembly.outputs.Given as goal
use Rattle.lw_netlist.specs.Plain.{port_name}

abbrev pub invariant-loop-k : goal.invariant-loop-k
invariant-loop-k l = record {
  names : map port_name l.outputs.items ≡ take l.k l.names;
  nets : map port_net l.outputs.items ≡ map (placed_net l.at.inputs l.at.places.now) (take l.k l.nets);
}
