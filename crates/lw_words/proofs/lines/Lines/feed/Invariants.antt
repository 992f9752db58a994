use Rattle.std.proofs.Common.{ℕ, List, ◌++◌, ◌≡◌, ◌≤◌, ◌+◌, ◌-◌, false, length, take}
use Rattle.lw_words.specs.Standing.{StandsFor}
use Rattle.lw_words.proofs.lines.Lines.feed.Given as goal

abbrev pub invariant-loop-at : goal.invariant-loop-at
invariant-loop-at l =
    (l.at ≤ length l.piece) × (l.self.finished ≡ false) × (l.self.fed ≡ l.initial.self.fed + l.at) × (l.self.marked ≡ l.initial.self.marked)
    × ((fed : List ℕ) (taken : ℕ) → StandsFor l.initial.self fed taken → StandsFor l.self (fed ++ take l.at l.piece) taken)

abbrev pub decreases-loop-at : goal.decreases-loop-at
decreases-loop-at l = length l.initial.piece - l.at
