-- Places in the order of their classes, and sorted by depth and then class.
use Rattle.std.proofs.Common.{ℕ, ◌+◌, ◌^◌, ◌<◌, ◌≤◌, ◌≡◌, ◌==◌, ◌⊎◌, inl, inr, Bool, true, false, List, [], ◌∷◌, ◌++◌, length, get_or, All, Contains, Some, slice_get, refl, ap, sym, ◌∙◌, subst, arith}
use native.Mathlib.Decide.{dec_lt}
use Rattle.std.specs.List.{IsDistinct}
use Rattle.std.specs.List.Sorted.{IsPermutation, IsNonDecreasingBy}
use Rattle.std.proofs.lemmas.List.Elements.{All-contains, Contains-push_cases}
use Rattle.std.proofs.lemmas.List.Sorted.{Contains-permutation, IsPermutation-sym}
use Rattle.std.proofs.lemmas.Map.Keys.{IsDistinct-from_apart, IsDistinct-IsPermutation, apart_from_distinct}
use Rattle.std.proofs.lemmas.Option.{none-some, slice_get_within, slice_get-get_or, get_or_from_slice_get}
use Rattle.lw_facts.proofs.Lists.{at_contained, get_last_cases}
use Rattle.lw_facts.proofs.Tests.{eq_lower}
use Rattle.lw_needed.specs.declared.places.Place.{Place}
use Rattle.lw_needed.specs.Places.{place_key, IsPlaceBefore, AreInClassOrder, AreInDepthOrder}

-- places of classes below a number, in the order of the classes
pub record AreInOrderBelow (count : ℕ) (places : List Place) : Type 0 where
  pub below : (p : Place) → Contains places p → p.class.0 < count
  pub rising : AreInClassOrder places

pub in_order_none : AreInOrderBelow 0 []
in_order_none = record {
  below = λ p (k, lt, e). absurd (omega arith);
  rising = λ i j p q e f lt. absurd (none-some p e);
}

-- a place of the next class
pub in_order_push : (count : ℕ) (places : List Place) (p : Place) → p.class.0 ≡ count → AreInOrderBelow count places → AreInOrderBelow (count + 1) (places ++ p ∷ [])
in_order_push count places p is are = record {
  below = λ q k. below_at q (Contains-push_cases places p q k);
  rising = λ i j q r e f lt. rising_at i j q r lt (get_last_cases places p i q e) (get_last_cases places p j r f);
}
  where
    below_at : (q : Place) → Contains places q ⊎ (p ≡ q) → q.class.0 < count + 1
    below_at q (inl k) = let lt = are.below q k in omega arith
    below_at q (inr e) = let s : p.class.0 ≡ q.class.0 = ap (λ (z : Place). z.class.0) e in omega (arith, s, is)

    rising_at : (i j : ℕ) (q r : Place) → i < j → (slice_get places i ≡ Some q) ⊎ ((i ≡ length places) × (q ≡ p)) → (slice_get places j ≡ Some r) ⊎ ((j ≡ length places) × (r ≡ p)) → q.class.0 < r.class.0
    rising_at i j q r lt (inl e) (inl f) = are.rising i j q r e f lt
    rising_at i j q r lt (inl e) (inr (s, f)) =
        let low = are.below q (at_contained places i q e) in
        let t : r.class.0 ≡ p.class.0 = ap (λ (z : Place). z.class.0) f in
        omega (arith, low, t, is)
    rising_at i j q r lt (inr (s, e)) (inl f) = let in' = slice_get_within places j r f in absurd (omega (arith, in', s, lt))
    rising_at i j q r lt (inr (s, e)) (inr (t, f)) = absurd (omega (arith, s, t, lt))

-- no place of the next class
pub in_order_skip : (count : ℕ) (places : List Place) → AreInOrderBelow count places → AreInOrderBelow (count + 1) places
in_order_skip count places are = record {
  below = λ q k. let lt = are.below q k in omega (arith, lt);
  rising = are.rising;
}

-- whether two places are of one class
abbrev is_of_one : Place → Place → Bool
is_of_one p q = p.class.0 == q.class.0

one_flips : (p q : Place) → is_of_one p q ≡ is_of_one q p
one_flips p q = by_tests (p.class.0 == q.class.0) (q.class.0 == p.class.0) refl refl
  where
    by_tests : (a b : Bool) → (p.class.0 == q.class.0) ≡ a → (q.class.0 == p.class.0) ≡ b → (p.class.0 == q.class.0) ≡ (q.class.0 == p.class.0)
    by_tests true true e f = e ∙ sym f
    by_tests false false e f = e ∙ sym f
    by_tests true false e f = grind (arith, e, f)
    by_tests false true e f = grind (arith, e, f)

differ : (p q : Place) → is_of_one p q ≡ false → p.class.0 ≡ q.class.0 → ⊥
differ p q e s = grind (arith, e, s)

key_before : (p q : Place) → p.class.0 < 2 ^ 32 → q.class.0 < 2 ^ 32 → place_key p ≤ place_key q → (p.class.0 ≡ q.class.0 → ⊥) → IsPlaceBefore p q
key_before p q a b le other = by_depth (dec_lt p.depth q.depth)
  where
    by_depth : Dec (p.depth < q.depth) → IsPlaceBefore p q
    by_depth (yes lt) = inl lt
    by_depth (no not) = inr (omega arith, omega arith)

-- by their keys the places are by depth and then class
pub sorted_places : (places rows : List Place) → All (λ (p : Place). p.class.0 < 2 ^ 32) places → IsPermutation places rows → IsNonDecreasingBy place_key rows → AreInClassOrder places → AreInDepthOrder rows
sorted_places places rows small moved up rising i j p q e f lt =
    let in' = slice_get_within rows j q f in
    let read_p : get_or rows i p ≡ p = get_or_from_slice_get rows i p p e in
    let read_q : get_or rows j p ≡ q = get_or_from_slice_get rows j q p f in
    let key : place_key p ≤ place_key q = subst (λ (z : Place). place_key z ≤ place_key q) read_p (subst (λ (z : Place). place_key (get_or rows i p) ≤ place_key z) read_q (up i j p (omega (arith, lt)) in')) in
    let apart : is_of_one p q ≡ false = subst (λ (z : Place). is_of_one z q ≡ false) read_p (subst (λ (z : Place). is_of_one (get_or rows i p) z ≡ false) read_q (apart_from_distinct is_of_one rows i j p distinct lt in')) in
    key_before p q (small_at p (at_contained rows i p e)) (small_at q (at_contained rows j q f)) key (differ p q apart)
  where
    small_at : (p : Place) → Contains rows p → p.class.0 < 2 ^ 32
    small_at p k = All-contains (λ (q : Place). q.class.0 < 2 ^ 32) places p small (Contains-permutation rows places p (IsPermutation-sym places rows moved) k)

    distinct : IsDistinct is_of_one rows
    distinct = IsDistinct-IsPermutation is_of_one one_flips places rows moved (IsDistinct-from_apart is_of_one places (λ i j d lt in'. eq_lower (get_or places i d).class.0 (get_or places j d).class.0 (rising i j (get_or places i d) (get_or places j d) (slice_get-get_or places i d (omega (arith, lt, in'))) (slice_get-get_or places j d in') lt)))
