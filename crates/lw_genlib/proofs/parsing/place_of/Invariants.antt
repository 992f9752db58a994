use Rattle.std.proofs.Common.{ℕ, ◌<◌, ◌≡◌, false, get_or, []}
use Rattle.std.specs.Str.{bytes_eq}
use Rattle.lw_genlib.proofs.parsing.place_of.Given as goal

abbrev pub invariant-loop-place : goal.invariant-loop-place
invariant-loop-place l = (k : ℕ) → k < l.place → bytes_eq l.bytes (get_or l.pins k []) ≡ false
