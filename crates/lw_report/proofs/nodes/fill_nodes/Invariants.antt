use Rattle.std.proofs.Common.{◌≡◌, ◌<◌, ℕ, length}
use Rattle.std.specs.Prelude.{slice_index}
use Rattle.lw_net.proofs.Filling.{IsFilled}
use Rattle.lw_report.specs.Blocks.{bits_at}
use Rattle.lw_report.proofs.nodes.fill_nodes.Given as goal

abbrev pub invariant-loop-j : goal.invariant-loop-j
invariant-loop-j l = record {
  inputs : (i : ℕ) → i < l.first → slice_index l.nets i ≡ slice_index l.initial.nets i;
  filled : (k : ℕ) → k < 64 → IsFilled l.nodes l.first l.j (bits_at k l.nets);
  length : length l.nets ≡ length l.initial.nets;
}
