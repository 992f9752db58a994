-- The area is a cost.
use Rattle.std.proofs.Common.{◌≡◌, ℕ, min, ◌≤◌, ◌+◌, List, [], ◌∷◌, subst, arith}
use Rattle.std.specs.List.{AllByRecursion}
use Rattle.lw_laws.specs.Costs.{AreAtMost, IsCost}
use Rattle.lw_genlib.specs.Cells.{CellParts}
use Rattle.lw_choices.specs.Areas.{most_area, area_at, total, area_cost}

-- each is at most the sum, and so at most the sum with more, where it is at most the cap
pins_below : (area rest : ℕ) (xs : List ℕ) → AllByRecursion (λ d. d ≤ most_area) xs
    → AllByRecursion (λ d. d ≤ min most_area (area + (rest + total xs))) xs
pins_below area rest [] all = tt
pins_below area rest (a ∷ xs) (h, all) =
    let more : AllByRecursion (λ d. d ≤ min most_area (area + (rest + a + total xs))) xs =
    pins_below area (rest + a) xs all in
    let same : ◌≡◌ {A = ℕ} (rest + a + total xs) (rest + (a + total xs)) = omega arith in
    (omega arith, rw same at more)

no_more : (n : ℕ) → ◌≡◌ {A = ℕ} (0 + n) n
no_more n = omega arith

sum_rises : (xs bs : List ℕ) → AreAtMost xs bs → total xs ≤ total bs
sum_rises [] [] h = omega arith
sum_rises [] (b ∷ bs) h = absurd h
sum_rises (a ∷ xs) [] h = absurd h
sum_rises (a ∷ xs) (b ∷ bs) (le, h) = let ih = sum_rises xs bs h in omega arith

pub area_cost_is : (cells : List CellParts) → IsCost (area_cost cells)
area_cost_is cells = record {
  leaf_capped = λ i h. omega arith;
  capped = λ cell ds k. omega arith;
  above_pins = λ cell ds k. subst (λ n. AllByRecursion (λ d. d ≤ min most_area (area_at cells cell + n)) ds)
      (no_more (total ds)) (pins_below (area_at cells cell) 0 ds k.capped);
  rises = λ cell ds es k l a. let h = sum_rises ds es a in omega arith;
}
