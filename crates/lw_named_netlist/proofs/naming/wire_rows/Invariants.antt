use Rattle.std.proofs.Common.{◌≡◌, ◌++◌, map, take, drop}
use Rattle.std.specs.List.{flat_map}
use Rattle.lw_named_netlist.specs.Closing.{needs_of, undriven_in, wire_link}
use Rattle.lw_named_netlist.specs.Numbered.{numbered}
use Rattle.lw_named_netlist.proofs.naming.wire_rows.Given as goal

abbrev pub invariant-loop-wire : goal.invariant-loop-wire
invariant-loop-wire l = record {
  so_far : l.rows.items ≡ l.initial.rows.items ++ numbered l.signals (map wire_link (take l.wire-index l.wires));
  rest : undriven_in l.signals (flat_map needs_of (map wire_link (drop l.wire-index l.wires))) ≡ undriven_in l.signals (flat_map needs_of (map wire_link l.wires));
}
