use Rattle.std.proofs.Common.{◌≡◌, false, take}
use Rattle.std.specs.List.{list_any}
use Rattle.lw_verilog.specs.Sayable.{cell_of, has_name}
use Rattle.lw_verilog.proofs.refusing.has_cell.Given as goal

abbrev pub invariant-loop-gate : goal.invariant-loop-gate
invariant-loop-gate l = list_any (λ gate. has_name l.name (cell_of l.lib gate)) (take l.gate-index l.gates) ≡ false
