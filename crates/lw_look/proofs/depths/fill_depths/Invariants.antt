use Rattle.std.proofs.Common.{◌≡◌, ◌+◌, ◌<◌, ◌≤◌, ℕ, length, slice_index_or}
use Rattle.lw_netlist.proofs.Filling.{IsFilled}
use Rattle.lw_look.specs.Depths.{gate_depth}
use Rattle.lw_look.proofs.depths.fill_depths.Given as goal

abbrev pub invariant-loop-j : goal.invariant-loop-j
invariant-loop-j l = record {
  inputs : (i : ℕ) → i < l.first → slice_index_or l.depths i 0 ≡ 0;
  filled : IsFilled 0 gate_depth l.gates l.first l.j l.depths;
  low : (i : ℕ) → slice_index_or l.depths i 0 ≤ l.j;
  length : length l.depths ≡ l.first + length l.gates;
}
