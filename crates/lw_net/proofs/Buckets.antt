-- A list in buckets: by a key, and at one key as it stands.
use Rattle.std.proofs.Common.{◌≡◌, ℕ, zero, suc, ◌+◌, ◌<◌, ◌≤◌, ◌==◌, max, Bool, true, false, cond, List, [], ◌∷◌, ◌++◌, length, map, filter, get_or, refl, sym, ap, ap₂, subst, arith}
use Rattle.std.specs.Prelude.{⊤}
use Rattle.std.specs.List.{flat_map, range_with_len, AllByRecursion}
use Rattle.std.specs.List.Sorted.{IsPermutation, IsNonDecreasingBy}
use Rattle.std.proofs.lemmas.Bool.{eqb-true}
use Rattle.std.proofs.lemmas.Bool.Decides.{nat_tests}
use Rattle.std.proofs.lemmas.List.Sorted.{IsPermutation-refl, IsPermutation-sym, IsPermutation-trans, IsPermutation-cons, IsPermutation-middle, IsPermutation-append_right}
use Rattle.lw_facts.proofs.Tests.{eq_lower}
use Rattle.lw_net.specs.Closing.{greatest}

module _ {A : Type 0} (key : A → ℕ) where
  abbrev bucket : ℕ → List A → List A
  bucket d xs = filter (λ x. key x == d) xs

  abbrev pub buckets : ℕ → ℕ → List A → List A
  buckets low many xs = flat_map (λ d. bucket d xs) (range_with_len low many)

  abbrev pub AreWithin : ℕ → ℕ → List A → Type 0
  AreWithin low many xs = AllByRecursion (λ x. (low ≤ key x) × (key x < low + many)) xs

  none : (low many : ℕ) → buckets low many [] ≡ []
  none low zero = refl
  none low (suc many) = none (low + 1) many

  -- an element below all buckets is in none
  outside : (low many : ℕ) (x : A) (xs : List A) → key x < low → buckets low many (x ∷ xs) ≡ buckets low many xs
  outside low zero x xs lt = refl
  outside low (suc many) x xs lt =
      ap₂ (λ a b. a ++ b) (ap (λ b. cond b (x ∷ bucket low xs) (bucket low xs)) (eq_lower (key x) low lt)) (outside (low + 1) many x xs (omega arith))

  -- an element goes into its bucket
  one_more : (low many : ℕ) (x : A) (xs : List A) → low ≤ key x → key x < low + many → IsPermutation (x ∷ buckets low many xs) (buckets low many (x ∷ xs))
  one_more low zero x xs le lt = absurd (omega arith)
  one_more low (suc many) x xs le lt = by_test (key x == low) refl (one_more (low + 1) many x xs)
    where
      by_test : (b : Bool) → (key x == low) ≡ b → (low + 1 ≤ key x → key x < low + 1 + many → IsPermutation (x ∷ buckets (low + 1) many xs) (buckets (low + 1) many (x ∷ xs))) →
          IsPermutation (x ∷ (bucket low xs ++ buckets (low + 1) many xs)) (cond b (x ∷ bucket low xs) (bucket low xs) ++ buckets (low + 1) many (x ∷ xs))
      by_test true is later =
          let same : key x ≡ low = eqb-true (key x) low is in
          subst (λ (r : List A). IsPermutation (x ∷ (bucket low xs ++ buckets (low + 1) many xs)) (x ∷ (bucket low xs ++ r))) (sym (outside (low + 1) many x xs (omega arith)))
          (IsPermutation-refl (x ∷ (bucket low xs ++ buckets (low + 1) many xs)))
      by_test false is later =
          let above : low + 1 ≤ key x = grind (arith, nat_tests) in
          IsPermutation-trans (x ∷ (bucket low xs ++ buckets (low + 1) many xs)) (bucket low xs ++ x ∷ buckets (low + 1) many xs) (bucket low xs ++ buckets (low + 1) many (x ∷ xs))
          (IsPermutation-sym (bucket low xs ++ x ∷ buckets (low + 1) many xs) (x ∷ (bucket low xs ++ buckets (low + 1) many xs)) (IsPermutation-middle (bucket low xs) x (buckets (low + 1) many xs)))
          (IsPermutation-append_right (bucket low xs) (x ∷ buckets (low + 1) many xs) (buckets (low + 1) many (x ∷ xs)) (later above (omega arith)))

  pub moved : (low many : ℕ) (xs : List A) → AreWithin low many xs → IsPermutation xs (buckets low many xs)
  moved low many [] within = subst (λ (r : List A). IsPermutation [] r) (sym (none low many)) (IsPermutation-refl [])
  moved low many (x ∷ xs) within =
      IsPermutation-trans (x ∷ xs) (x ∷ buckets low many xs) (buckets low many (x ∷ xs))
      (IsPermutation-cons x xs (buckets low many xs) (moved low many xs within.1))
      (one_more low many x xs within.0.0 within.0.1)

  -- Order.

  abbrev AtLeast : ℕ → List A → Type 0
  AtLeast n xs = AllByRecursion (λ x. n ≤ key x) xs

  abbrev Rise : List A → Type 0
  Rise [] = ⊤
  Rise (x ∷ xs) = AtLeast (key x) xs × Rise xs

  all_both : (P : A → Type 0) (xs ys : List A) → AllByRecursion P xs → AllByRecursion P ys → AllByRecursion P (xs ++ ys)
  all_both P [] ys all others = others
  all_both P (x ∷ xs) ys all others = (all.0, all_both P xs ys all.1 others)

  lower : (n m : ℕ) (xs : List A) → n ≤ m → AtLeast m xs → AtLeast n xs
  lower n m [] le all = tt
  lower n m (x ∷ xs) le all = (omega (arith, all.0), lower n m xs le all.1)

  -- a bucket, and then what is not below it
  rise_both : (n : ℕ) (xs ys : List A) → AllByRecursion (λ x. key x ≡ n) xs → AtLeast n ys → Rise ys → Rise (xs ++ ys)
  rise_both n [] ys all above rise = rise
  rise_both n (x ∷ xs) ys all above rise =
      (all_both (λ y. key x ≤ key y) xs ys (lower (key x) n xs (omega (arith, all.0)) (same n xs all.1)) (lower (key x) n ys (omega (arith, all.0)) above), rise_both n xs ys all.1 above rise)
    where
      same : (m : ℕ) (zs : List A) → AllByRecursion (λ z. key z ≡ m) zs → AtLeast m zs
      same m [] h = tt
      same m (z ∷ zs) h = (omega (arith, h.0), same m zs h.1)

  in_bucket : (d : ℕ) (xs : List A) → AllByRecursion (λ x. key x ≡ d) (bucket d xs)
  in_bucket d [] = tt
  in_bucket d (x ∷ xs) = by_test (key x == d) refl (in_bucket d xs)
    where
      by_test : (b : Bool) → (key x == d) ≡ b → AllByRecursion (λ y. key y ≡ d) (bucket d xs) → AllByRecursion (λ y. key y ≡ d) (cond b (x ∷ bucket d xs) (bucket d xs))
      by_test true is all = (eqb-true (key x) d is, all)
      by_test false is all = all

  equal_least : (d : ℕ) (xs : List A) → AllByRecursion (λ x. key x ≡ d) xs → AtLeast d xs
  equal_least d [] h = tt
  equal_least d (x ∷ xs) h = (omega (arith, h.0), equal_least d xs h.1)

  not_below : (low many : ℕ) (xs : List A) → AtLeast low (buckets low many xs)
  not_below low zero xs = tt
  not_below low (suc many) xs =
      all_both (λ x. low ≤ key x) (bucket low xs) (buckets (low + 1) many xs) (equal_least low (bucket low xs) (in_bucket low xs))
      (lower low (low + 1) (buckets (low + 1) many xs) (omega arith) (not_below (low + 1) many xs))

  rise : (low many : ℕ) (xs : List A) → Rise (buckets low many xs)
  rise low zero xs = tt
  rise low (suc many) xs =
      rise_both low (bucket low xs) (buckets (low + 1) many xs) (in_bucket low xs)
      (lower low (low + 1) (buckets (low + 1) many xs) (omega arith) (not_below (low + 1) many xs)) (rise (low + 1) many xs)

  least_at : (n : ℕ) (xs : List A) (j : ℕ) (d : A) → AtLeast n xs → j < length xs → n ≤ key (get_or xs j d)
  least_at n [] j d all lt = absurd (omega arith)
  least_at n (x ∷ xs) zero d all lt = all.0
  least_at n (x ∷ xs) (suc j) d all lt = least_at n xs j d all.1 (omega arith)

  rise_at : (xs : List A) → Rise xs → IsNonDecreasingBy key xs
  rise_at [] h i j d le lt = absurd (omega arith)
  rise_at (x ∷ xs) h zero zero d le lt = omega arith
  rise_at (x ∷ xs) h zero (suc j) d le lt = least_at (key x) xs j d h.0 (omega arith)
  rise_at (x ∷ xs) h (suc i) zero d le lt = absurd (omega arith)
  rise_at (x ∷ xs) h (suc i) (suc j) d le lt = rise_at xs h.1 i j d (omega arith) (omega arith)

  pub rising : (low many : ℕ) (xs : List A) → IsNonDecreasingBy key (buckets low many xs)
  rising low many xs = rise_at (buckets low many xs) (rise low many xs)

  -- keys from 1 on
  weaken : (n m : ℕ) (xs : List A) → n ≤ m → AreWithin 1 n xs → AreWithin 1 m xs
  weaken n m [] le all = tt
  weaken n m (x ∷ xs) le all = ((all.0.0, omega (arith, all.0.1)), weaken n m xs le all.1)

  pub within_greatest : (xs : List A) → AtLeast 1 xs → AreWithin 1 (greatest (map key xs)) xs
  within_greatest [] all = tt
  within_greatest (x ∷ xs) all =
      ((all.0, omega arith), weaken (greatest (map key xs)) (max (key x) (greatest (map key xs))) xs (omega arith) (within_greatest xs all.1))
