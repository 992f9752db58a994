use Rattle.std.proofs.Common.{ℕ, ◌<◌, ◌≤◌, ◌≡◌, length, get_or}
use Rattle.lw_fixed.proofs.printing.places_kept.Given as goal

abbrev pub invariant-loop-places : goal.invariant-loop-places
invariant-loop-places l = (l.places ≤ length l.digits) × ((k : ℕ) → l.places ≤ k → k < length l.digits → get_or l.digits k 0 ≡ 48)

abbrev pub decreases-loop-places : goal.decreases-loop-places
decreases-loop-places l = l.places
