-- A place that takes the cut of a pair with fewer leaves.
use Rattle.std.proofs.Common.{◌≡◌, ◌+◌, ◌*◌, ◌/◌, ◌<◌, ◌≤◌, ◌⊎◌, ◌++◌, inl, inr, ℕ, zero, suc, List, [], ◌∷◌, length, Some, slice_get, slice_index, slice_set, refl, ap, sym, ◌∙◌, subst, arith, length-append}
use Rattle.std.proofs.lemmas.List.{length-set}
use Rattle.std.proofs.lemmas.Option.{slice_get_within}
use Rattle.lw_pool.specs.declared.id.ClassId.{ClassId}
use Rattle.lw_laws.specs.Graphs.{Graph, HoldsPair}
use Rattle.lw_lut.specs.Cuts.{PlainCut}
use Rattle.lw_lut.specs.Packed.{joined_bits}
use Rattle.lw_lut.specs.Searches.{AreCounts, AreLists, IsKept, IsBelow, count_at, total, IsSide}
use Rattle.lw_lut.specs.declared.search.Search.{Search}
use Rattle.lw_lut.proofs.Places.{get_set, number_set, sum_set}
use Rattle.lw_lut.proofs.Pairs.{half_below}
use Rattle.lw_lut.proofs.Joining.{joined_cut, place_cut}

get_append : {X : Type 0} (xs ys : List X) (k : ℕ) (x : X) → slice_get (xs ++ ys) k ≡ Some x → ((j : ℕ) × (slice_get xs j ≡ Some x)) ⊎ ((j : ℕ) × (slice_get ys j ≡ Some x))
get_append [] ys k x e = inr (k, e)
get_append (z ∷ xs) ys zero x e = inl (0, e)
get_append (z ∷ xs) ys (suc k) x e = elim (get_append xs ys k x e) [ inl (j, f) ↦ inl (suc j, f) | inr (j, f) ↦ inr (j, f) ]

module _ (g : Graph) (most d : ℕ) (s : Search) (are : AreCounts g most d s) (c x y : ℕ) (below : c < length g.pairs) (holds : HoldsPair g c x y) (less : count_at s.counts.items x + count_at s.counts.items y < count_at s.counts.items c) (a b : PlainCut) (left : IsSide g d s x a) (right : IsSide g d s y b) where
  abbrev cut : PlainCut
  cut = record { pins = a.pins ++ b.pins; bits = joined_bits a x b y c }

  abbrev n : ℕ
  n = length (a.pins ++ b.pins)

  size : n ≡ count_at s.counts.items x + count_at s.counts.items y
  size = let p = left.1 in let q = right.1 in let l = length-append a.pins b.pins in omega (arith, p, q, l)

  pub here : c / 2 < length s.counts.items
  here = half_below c (length g.pairs) (length s.counts.items) below are.places

  fewer : n < slice_index s.counts.items (c / 2)
  fewer = let e = size in omega (arith, e, less)

  small : n ≤ most
  small = let l = are.low (c / 2) in let f = fewer in omega (arith, l, f)

  cut_known : (k : ℕ) (q : ClassId) → slice_get (a.pins ++ b.pins) k ≡ Some q → IsBelow s.depths.items d q.0
  cut_known k q e = elim (get_append a.pins b.pins k q e) [ inl (j, f) ↦ left.2 j q f | inr (j, f) ↦ right.2 j q f ]

  no_pin : n ≡ 0 → (k : ℕ) (q : ClassId) → slice_get (a.pins ++ b.pins) k ≡ Some q → {A : Type 0} → A
  no_pin e k q f = let lt = slice_get_within (a.pins ++ b.pins) k q f in absurd (omega (arith, e, lt))

  cut_kept : IsKept g most d s.depths.items (c / 2) cut
  cut_kept = record {
    is = place_cut g c cut (joined_cut g c x y holds a b left.0 right.0);
    few = small;
    known = cut_known;
    below = λ j e at deep k q f.
        let (r, pin) = are.known j (suc e, deep) in
        let low = (are.pin (c / 2) r (subst (λ p. slice_get s.pins.items p ≡ Some (Some r)) at pin)).low in
        let l = fewer in
        no_pin (omega (arith, low, l)) k q f;
  }

  pub lowered_total : total (slice_set s.counts.items (c / 2) n) < total s.counts.items
  lowered_total = sum_set s.counts.items (c / 2) n here fewer

  abbrev counts : List ℕ
  counts = slice_set s.counts.items (c / 2) n

  pub lower_count : (k : ℕ) → slice_index counts k ≤ slice_index s.counts.items k
  lower_count k = elim (number_set s.counts.items (c / 2) n k here) [
    | inl (same, e) ↦ let f = fewer in let at : slice_index s.counts.items k ≡ slice_index s.counts.items (c / 2) = ap (slice_index s.counts.items) same in omega (arith, e, f, at)
    | inr (other, e) ↦ omega (arith, e)
  ]

  pub same_count : (k : ℕ) → (k ≡ c / 2 → ⊥) → slice_index counts k ≡ slice_index s.counts.items k
  same_count k other = elim (number_set s.counts.items (c / 2) n k here) [ inl (same, e) ↦ absurd (other same) | inr (o, e) ↦ e ]

  new_count : slice_index counts (c / 2) ≡ n
  new_count = elim (number_set s.counts.items (c / 2) n (c / 2) here) [ inl (same, e) ↦ e | inr (o, e) ↦ absurd (o refl) ]

  pub lowered : AreLists g most d d counts (slice_set s.cuts.items (c / 2) cut) s.pins.items s.depths.items
  lowered = record {
    places = are.places ∙ ap (λ m. 2 * m) (sym (length-set s.counts.items (c / 2) n));
    one_cut = length-set s.cuts.items (c / 2) cut ∙ (are.one_cut ∙ sym (length-set s.counts.items (c / 2) n));
    one_pin = are.one_pin ∙ sym (length-set s.counts.items (c / 2) n);
    one_depth = are.one_depth;
    low = λ k. let l = lower_count k in let o = are.low k in omega (arith, l, o);
    one = let l = lower_count (g.one / 2) in let o = are.one in omega (arith, l, o);
    kept = λ k h at low. elim (get_set s.cuts.items (c / 2) cut k h at) [
      | inl (same, e) ↦ subst (λ p. IsKept g most d s.depths.items p h) (sym same) (subst (λ p. IsKept g most d s.depths.items (c / 2) p) e cut_kept)
      | inr (other, e) ↦ are.kept k h e (subst (λ m. m ≤ most) (same_count k other) low)
    ];
    sized = λ k h at low free. elim (get_set s.cuts.items (c / 2) cut k h at) [
      | inl (same, e) ↦ ap (λ (p : PlainCut). length p.pins) (sym e) ∙ (sym new_count ∙ ap (slice_index counts) (sym same))
      | inr (other, e) ↦ are.sized k h e (subst (λ m. m ≤ most) (same_count k other) low) (elim free [ inl o ↦ inl o | inr z ↦ inr (sym (same_count k other) ∙ z) ]) ∙ sym (same_count k other)
    ];
    pin = λ k q at. let p = are.pin k q at in record { of_place = p.of_place; known = p.known; low = let l = lower_count k in let o = p.low in omega (arith, l, o) };
    known = are.known;
  }

-- Passes one after the other.
