-- Settling reads a match at most once for each of its pins, and once more.
use Rattle.std.proofs.Common.{ℕ, suc, ◌+◌, ◌≤◌, ◌==◌, Bool, true, false, is_some, if◌then◌else◌, List, [], ◌∷◌, length, arith}
use Rattle.lw_laws.specs.Choices.{Labels}
use Rattle.lw_settle.specs.Settled.{labelled, labelled_uses, labelled_matches}
use Rattle.lw_settle.specs.Stores.{Placed, pins_of, pin_total}

labelled_few : (labels : Labels) (ps : List ℕ) → labelled labels ps ≤ length ps
labelled_few labels [] = omega arith
labelled_few labels (p ∷ ps) = by_test (is_some (labels p)) (labelled_few labels ps)
  where
    by_test : (b : Bool) → labelled labels ps ≤ length ps → (if b then suc (labelled labels ps) else labelled labels ps) ≤ suc (length ps)
    by_test true few = omega (arith, few)
    by_test false few = omega (arith, few)

pub few_reads : (labels : Labels) (ms : List Placed) → labelled_uses labels ms + labelled_matches labels ms ≤ pin_total ms + length ms
few_reads labels [] = omega arith
few_reads labels (m ∷ ms) = by_test (labelled labels (pins_of m) == length (pins_of m)) (labelled_few labels (pins_of m)) (few_reads labels ms)
  where
    by_test : (b : Bool) → labelled labels (pins_of m) ≤ length (pins_of m) → labelled_uses labels ms + labelled_matches labels ms ≤ pin_total ms + length ms → (labelled labels (pins_of m) + labelled_uses labels ms) + ((if b then 1 else 0) + labelled_matches labels ms) ≤ (length (pins_of m) + pin_total ms) + suc (length ms)
    by_test true own few = omega (arith, own, few)
    by_test false own few = omega (arith, own, few)
