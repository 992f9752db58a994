-- Pins with the same classes and delays in another order have the same points.
use Rattle.std.proofs.Common.{◌≡◌, ℕ, zero, suc, ◌+◌, ◌<◌, ◌≤◌, length, map, zip, List, [], ◌∷◌, slice_set, slice_index_or, refl, ap, sym, ◌∙◌, subst, arith}
use Rattle.std.specs.List.{AllByRecursion, AllZip, sum_by, swap}
use Rattle.std.specs.List.Sorted.{IsPermutation}
use Rattle.std.proofs.lemmas.List.Elements.{All-from_recursion, recursion_from_All}
use Rattle.std.proofs.lemmas.List.Sorted.{All-permutation, IsPermutation-keeps, IsPermutation-refl, IsPermutation-swap, IsPermutation-trans, sum_by-IsPermutation}
use Rattle.std.proofs.lemmas.List.Sums.{sum_by-cons}
use Rattle.lw_laws.specs.Covers.{latest}
use Rattle.lw_choices.specs.Areas.{total}
use Rattle.lw_curves.specs.Settling.{Spot, IsSpotOf, areas, times}

module _ {P X : Type 0} (f : P → X) where
  map_set : (ps : List P) (i : ℕ) (p : P) → map f (slice_set ps i p) ≡ slice_set (map f ps) i (f p)
  map_set [] i p = refl
  map_set (q ∷ ps) zero p = refl
  map_set (q ∷ ps) (suc i) p = ap (λ xs. f q ∷ xs) (map_set ps i p)

  map_index : (ps : List P) (i : ℕ) (d : P) → f (slice_index_or ps i d) ≡ slice_index_or (map f ps) i (f d)
  map_index [] i d = refl
  map_index (q ∷ ps) zero d = refl
  map_index (q ∷ ps) (suc i) d = map_index ps i d

  map_swap : (ps : List P) (i j : ℕ) → map f (swap ps i j) ≡ swap (map f ps) i j
  map_swap [] i j = refl
  map_swap (q ∷ ps) i j =
      map_set (slice_set (q ∷ ps) i (slice_index_or (q ∷ ps) j q)) j (slice_index_or (q ∷ ps) i q)
      ∙ (λ t. slice_set ((map_set (q ∷ ps) i (slice_index_or (q ∷ ps) j q) ∙ ap (slice_set (map f (q ∷ ps)) i) (map_index (q ∷ ps) j q)) t) j (map_index (q ∷ ps) i q t))

  map_length : (ps : List P) → length (map f ps) ≡ length ps
  map_length [] = refl
  map_length (q ∷ ps) = let ih = map_length ps in omega arith

  -- what is moved of the values moves what they are of
  pub moved_with : (ps : List P) (xs : List X) → IsPermutation (map f ps) xs → (qs : List P) × IsPermutation ps qs × (map f qs ≡ xs)
  moved_with ps xs = IsPermutation-keeps (map f ps) (λ l. (qs : List P) × IsPermutation ps qs × (map f qs ≡ l)) (ps, IsPermutation-refl ps, refl)
      (λ l i j li lj (qs, perm, e).
      let n : ◌≡◌ {A = ℕ} (length qs) (length l) = sym (map_length qs) ∙ ap length e in
      (swap qs i j, IsPermutation-trans ps qs (swap qs i j) perm (IsPermutation-swap qs (swap qs i j) i j (omega (arith, n, li)) (omega (arith, n, lj)) refl), map_swap qs i j ∙ ap (λ xs. swap xs i j) e)) xs

-- a pin with its delay and its class, and a point for it
abbrev Bound : Type 0
Bound = (ℕ × ℕ) × Spot

abbrev pin_of : Bound → ℕ × ℕ
pin_of b = b.0

abbrev point_of : Bound → Spot
point_of b = b.1

abbrev area_of : Bound → ℕ
area_of b = b.1.area

bound_pins : (ds ps : List ℕ) (ks : List Spot) → length ds ≡ length ps → length ps ≡ length ks → map pin_of (zip (zip ds ps) ks) ≡ zip ds ps
bound_pins [] ps ks e f = refl
bound_pins (d ∷ ds) [] ks e f = absurd (omega arith)
bound_pins (d ∷ ds) (p ∷ ps) [] e f = absurd (omega arith)
bound_pins (d ∷ ds) (p ∷ ps) (k ∷ ks) e f = ap (λ us. (d, p) ∷ us) (bound_pins ds ps ks (omega arith) (omega arith))

bound_areas : (ds ps : List ℕ) (ks : List Spot) → length ds ≡ length ps → length ps ≡ length ks → ◌≡◌ {A = ℕ} (sum_by area_of (zip (zip ds ps) ks)) (total (areas ks))
bound_areas [] [] [] e f = refl
bound_areas [] [] (k ∷ ks) e f = absurd (omega arith)
bound_areas [] (p ∷ ps) ks e f = absurd (omega arith)
bound_areas (d ∷ ds) [] ks e f = absurd (omega arith)
bound_areas (d ∷ ds) (p ∷ ps) [] e f = absurd (omega arith)
bound_areas (d ∷ ds) (p ∷ ps) (k ∷ ks) e f =
    let one = sum_by-cons area_of ((d, p), k) (zip (zip ds ps) ks) in
    let rest = bound_areas ds ps ks (omega arith) (omega arith) in
    omega arith

all_areas : (bs : List Bound) → ◌≡◌ {A = ℕ} (sum_by area_of bs) (total (areas (map point_of bs)))
all_areas [] = refl
all_areas (b ∷ bs) =
    let one = sum_by-cons area_of b bs in
    let rest = all_areas bs in
    omega arith

module _ (spots : List Spot) where
  abbrev IsBoundBy : ℕ → Bound → Type 0
  IsBoundBy time b = IsSpotOf spots b.0.1 b.1 × (b.0.0 + b.1.time ≤ time)

  as_long : (ps : List ℕ) (ks : List Spot) → AllZip (IsSpotOf spots) ps ks → length ps ≡ length ks
  as_long [] [] z = refl
  as_long [] (k ∷ ks) z = absurd z
  as_long (p ∷ ps) [] z = absurd z
  as_long (p ∷ ps) (k ∷ ks) (is, z) = let ih = as_long ps ks z in omega arith

  all_bound : (time : ℕ) (ds ps : List ℕ) (ks : List Spot) → AllZip (IsSpotOf spots) ps ks → latest ds (times ks) ≤ time → AllByRecursion (IsBoundBy time) (zip (zip ds ps) ks)
  all_bound time [] ps ks z le = tt
  all_bound time (d ∷ ds) [] ks z le = tt
  all_bound time (d ∷ ds) (p ∷ ps) [] z le = absurd z
  all_bound time (d ∷ ds) (p ∷ ps) (k ∷ ks) (is, z) le = ((is, omega arith), all_bound time ds ps ks z (omega arith))

  points_of : (time : ℕ) (ds qs : List ℕ) (bs : List Bound) → length ds ≡ length qs → map pin_of bs ≡ zip ds qs → AllByRecursion (IsBoundBy time) bs → AllZip (IsSpotOf spots) qs (map point_of bs) × (latest ds (times (map point_of bs)) ≤ time)
  points_of time [] [] [] e m all = (tt, omega arith)
  points_of time [] [] (b ∷ bs) e m all = cc
  points_of time [] (q ∷ qs) bs e m all = absurd (omega arith)
  points_of time (d ∷ ds) [] bs e m all = absurd (omega arith)
  points_of time (d ∷ ds) (q ∷ qs) [] e m all = cc
  points_of time (d ∷ ds) (q ∷ qs) (b ∷ bs) e m ((is, le), all) =
      let first : b.0 ≡ (d, q) = cc in
      let more : map pin_of bs ≡ zip ds qs = cc in
      let delay : ◌≡◌ {A = ℕ} b.0.0 d = ap (λ (u : ℕ × ℕ). u.0) first in
      let class : ◌≡◌ {A = ℕ} b.0.1 q = ap (λ (u : ℕ × ℕ). u.1) first in
      let (rest, late) = points_of time ds qs bs (omega arith) more all in
      ((subst (λ p. IsSpotOf spots p b.1) class is, rest), omega arith)

  -- points for the pins in one order give points for them in the other, no later and of no greater area
  pub points_moved : (ds ps qs : List ℕ) (ks : List Spot) → length ds ≡ length ps → length ds ≡ length qs → IsPermutation (zip ds ps) (zip ds qs) → AllZip (IsSpotOf spots) ps ks
      → (js : List Spot) × AllZip (IsSpotOf spots) qs js × (latest ds (times js) ≤ latest ds (times ks)) × (total (areas js) ≤ total (areas ks))
  points_moved ds ps qs ks e f perm z =
      let time = latest ds (times ks) in
      let bs = zip (zip ds ps) ks in
      let long = as_long ps ks z in
      let same = bound_pins ds ps ks e long in
      let (cs, moved, pins) = moved_with pin_of bs (zip ds qs) (subst (λ us. IsPermutation us (zip ds qs)) (sym same) perm) in
      let all = all_bound time ds ps ks z (omega arith) in
      let all' = recursion_from_All (IsBoundBy time) cs (All-permutation (IsBoundBy time) bs cs moved (All-from_recursion (IsBoundBy time) bs all)) in
      let (points, late) = points_of time ds qs cs f pins all' in
      let sum = sum_by-IsPermutation area_of bs cs moved in
      let one = bound_areas ds ps ks e long in
      let other = all_areas cs in
      (map point_of cs, points, late, omega arith)
