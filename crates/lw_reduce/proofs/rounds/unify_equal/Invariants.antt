use Rattle.std.proofs.Common.{ℕ, ◌≡◌, ◌≤◌, ◌<◌, false, length}
use Rattle.lw_reduce.specs.Representatives.{IsFlat, Progresses}
use Rattle.lw_reduce.specs.Settling.{AgreesAt}
use Rattle.lw_reduce.proofs.rounds.unify_equal.Given as goal

abbrev pub invariant-loop-place : goal.invariant-loop-place
invariant-loop-place l = record {
  progress : Progresses (length l.fn.reps) l.facts.nands.now l.facts.links.now l.fn.reps l.reps l.changed;
  same : l.changed ≡ false → IsFlat l.fn.reps → (l.reps ≡ l.fn.reps) × ((place : ℕ) → 1 ≤ place → place < l.place → AgreesAt l.fn.reps l.canonical place);
}
