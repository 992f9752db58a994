use Rattle.std.proofs.Common.{◌≡◌, ◌<◌, ℕ, false, length}
use Rattle.std.specs.Prelude.{slice_index}
use Rattle.lw_netlist.specs.Filling.{gate_value}
use Rattle.lw_netlist.proofs.Filling.{IsFilled}
use Rattle.lw_report.specs.Blocks.{bits_at}
use Rattle.lw_report.proofs.gates.fill_gates.Given as goal

abbrev pub invariant-loop-j : goal.invariant-loop-j
invariant-loop-j l = record {
  inputs : (i : ℕ) → i < l.first → slice_index l.nets i ≡ slice_index l.initial.nets i;
  filled : (k : ℕ) → k < 64 → IsFilled false (gate_value l.lib) l.gates l.first l.j (bits_at k l.nets);
  length : length l.nets ≡ length l.initial.nets;
}
