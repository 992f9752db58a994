-- The steep cost is a cost.
use Rattle.std.proofs.Common.{ℕ, ◌+◌, ◌≤◌, ◌≡◌, List, [], ◌∷◌, length, arith}
use Rattle.std.proofs.lemmas.Bool.Decides.{nat_tests}
use Rattle.std.specs.List.{AllByRecursion}
use Rattle.lw_laws.specs.Costs.{AreAtMost, IsCost}
use Rattle.lw_genlib.specs.Cells.{CellParts}
use Rattle.lw_test_matches.specs.Steep.{most_cost, total, joined, jump, steep_value, steep_cost}

-- what is no less than the sum is no less than each
below : (n rest : ℕ) (xs : List ℕ) → AllByRecursion (λ d. d ≤ most_cost) xs → joined rest (total xs) ≤ n
    → AllByRecursion (λ d. d ≤ n) xs
below n rest [] all le = tt
below n rest (a ∷ xs) (h, all) le = (omega arith, below n (rest + a) xs all (omega arith))

total_rises : (xs bs : List ℕ) → AreAtMost xs bs → (total xs ≤ total bs) × (length xs ≡ length bs)
total_rises [] [] h = (omega arith, cc)
total_rises [] (b ∷ bs) h = absurd h
total_rises (a ∷ xs) [] h = absurd h
total_rises (a ∷ xs) (b ∷ bs) (le, h) = let (s, e) = total_rises xs bs h in (omega arith, cc)

jump_rises : (from rise t u : ℕ) → t ≤ u → jump from rise t ≤ jump from rise u
jump_rises from rise t u le = grind (arith, nat_tests)

pub steep_is : (cells : List CellParts) (from rise : ℕ) → IsCost (steep_cost cells from rise)
steep_is cells from rise = record {
  leaf_capped = λ i h. omega arith;
  capped = λ cell ds k. omega arith;
  above_pins = λ cell ds k. below (steep_value from rise ds) 0 ds k.capped (omega arith);
  rises = λ cell ds es k l a.
      let (s, e) = total_rises ds es a in
      let j = jump_rises from rise (joined 0 (total ds)) (joined 0 (total es)) (omega arith) in
      omega arith;
}
