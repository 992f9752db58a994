use Rattle.std.proofs.Common.{ℕ, ◌≡◌, ◌*◌, ◌<◌, length, slice_index}
use Rattle.lw_reduce.proofs.reduction.own_reps.Given as goal

abbrev pub invariant-loop-base : goal.invariant-loop-base
invariant-loop-base l = record {
  count : length l.reps.items ≡ l.base;
  own : (b : ℕ) → b < l.base → slice_index l.reps.items b ≡ 2 * b;
}
