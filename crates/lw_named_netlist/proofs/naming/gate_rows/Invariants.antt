use Rattle.std.proofs.Common.{◌≡◌, map, take, drop}
use Rattle.std.specs.List.{flat_map}
use Rattle.lw_named_netlist.specs.Closing.{gate_link, needs_of, undriven_in}
use Rattle.lw_named_netlist.specs.Numbered.{numbered}
use Rattle.lw_named_netlist.proofs.naming.gate_rows.Given as goal

abbrev pub invariant-loop-gate : goal.invariant-loop-gate
invariant-loop-gate l = record {
  so_far : l.rows.items ≡ numbered l.signals (map gate_link (take l.gate-index l.gates));
  rest : undriven_in l.signals (flat_map needs_of (map gate_link (drop l.gate-index l.gates))) ≡ undriven_in l.signals (flat_map needs_of (map gate_link l.gates));
}
