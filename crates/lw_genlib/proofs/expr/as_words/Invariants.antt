use Rattle.std.proofs.Common.{ℕ, ◌<◌, ◌≡◌, length}
use Rattle.std.specs.Prelude.{slice_index}
use Rattle.lw_laws.specs.Networks.{given}
use Rattle.lw_genlib.specs.Words.{bit}
use Rattle.lw_genlib.proofs.expr.as_words.Given as goal

abbrev pub invariant-loop-place : goal.invariant-loop-place
invariant-loop-place l = (length l.words ≡ 16) × ((k : ℕ) → k < l.place → bit 0 (slice_index l.words k) ≡ given l.values k)
