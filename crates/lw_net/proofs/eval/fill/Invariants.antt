use Rattle.std.proofs.Common.{◌≡◌, ◌<◌, ℕ, false, slice_index_or}
use Rattle.lw_net.proofs.Filling.{IsFilled}
use Rattle.lw_net.proofs.eval.fill.Given as goal

abbrev pub invariant-loop-j : goal.invariant-loop-j
invariant-loop-j l = record {
  inputs : (i : ℕ) → i < l.first → slice_index_or l.nets i false ≡ slice_index_or l.initial.nets i false;
  filled : IsFilled l.nodes l.first l.j l.nets;
}
