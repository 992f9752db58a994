use Rattle.std.proofs.Common.{◌≡◌, drop}
use Rattle.std.specs.Prelude.{find}
use Rattle.std.specs.List.{flat_map}
use Rattle.lw_verilog.specs.Sayable.{is_hidden, gate_names}
use Rattle.lw_verilog.proofs.refusing.hidden_gate.Given as goal

abbrev pub invariant-loop-gate : goal.invariant-loop-gate
invariant-loop-gate l = find is_hidden (flat_map (gate_names l.lib l.names) (drop l.gate-index l.gates)) ≡ find is_hidden (flat_map (gate_names l.lib l.names) l.gates)
