use Rattle.std.proofs.Common.{ℕ, ◌+◌, ◌*◌, ◌<◌, ◌≡◌, length}
use Rattle.std.specs.Prelude.{slice_index}
use Rattle.lw_genlib.specs.Words.{bit}
use Rattle.lw_genlib.proofs.truth.pin_words.Given as goal

abbrev pub invariant-loop-pin : goal.invariant-loop-pin
invariant-loop-pin l = (length l.words ≡ 16) × ((p k : ℕ) → p < l.pin → k < 64 → bit k (slice_index l.words p) ≡ bit p (l.block * 64 + k))
