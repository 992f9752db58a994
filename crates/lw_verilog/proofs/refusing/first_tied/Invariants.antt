use Rattle.std.proofs.Common.{◌≡◌, drop}
use Rattle.std.specs.List.{flat_map}
use Rattle.lw_verilog.specs.Sayable.{cell_tied, cell_of, first_or_none}
use Rattle.lw_verilog.proofs.refusing.first_tied.Given as goal

abbrev pub invariant-loop-gate : goal.invariant-loop-gate
invariant-loop-gate l = first_or_none (flat_map (λ gate. cell_tied (cell_of l.lib gate)) (drop l.gate-index l.gates)) ≡ first_or_none (flat_map (λ gate. cell_tied (cell_of l.lib gate)) l.gates)
