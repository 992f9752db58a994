-- Classes of a place that get a depth.
use Rattle.std.proofs.Common.{◌≡◌, ◌≢◌, ◌+◌, ◌*◌, ◌<◌, ◌⊎◌, ◌||◌, inl, inr, ℕ, Bool, true, false, not, List, length, Option, Some, None, slice_set, refl, ap, sym, ◌∙◌, arith, true≢false}
use Rattle.std.specs.Prelude.{slice_index_or, unwrap_or}
use Rattle.std.proofs.lemmas.Bool.{cases_eq, or_cases, or_parts}
use Rattle.std.proofs.lemmas.Option.{same_Some, get_or_from_slice_get, slice_get_read}
use Rattle.std.specs.Option.{is_some}
use Rattle.std.proofs.lemmas.List.{length-set, get_or-set_same, get_or-set_other}
use Rattle.std.proofs.lemmas.List.Sums.{sum_by-set}
use Rattle.lw_laws.proofs.Flips.{even_or_odd}
use Rattle.lw_lut.specs.Searches.{depth_in, IsDeepened, unknown_count, is_unknown}
use Rattle.lw_lut.proofs.Places.{none_some}

pub none : Option ℕ → Bool
none None = true
none (Some e) = false

kept_depth : (o : Option ℕ) (d e u : ℕ) → u ≡ unwrap_or o d → o ≡ Some e → u ≡ e
kept_depth None d e u is at = none_some at
kept_depth (Some f) d e u is at = is ∙ same_Some f e at

added_depth : (o : Option ℕ) (d e u : ℕ) → u ≡ unwrap_or o d → Some u ≡ Some e → (o ≡ Some e) ⊎ ((e ≡ d) × (o ≡ None))
added_depth None d e u is at = inr (sym (same_Some u e at) ∙ is, refl)
added_depth (Some f) d e u is at = inl (ap Some (sym is) ∙ at)

module _ (old : List (Option ℕ)) (i d u : ℕ) (lt : i < length old) (is : u ≡ unwrap_or (depth_in old i) d) where
  abbrev new : List (Option ℕ)
  new = slice_set old i (Some u)

  one_value : depth_in new i ≡ Some u
  one_value = get_or-set_same old i (Some u) None lt

  one_other : (c : ℕ) → c ≢ i → depth_in new c ≡ depth_in old c
  one_other c ne = get_or-set_other old i c (Some u) None ne

  one_kept : (c e : ℕ) → depth_in old c ≡ Some e → depth_in new c ≡ Some e
  one_kept c e at = elim (cases_eq c i) [
    | inl same ↦ ap (depth_in new) same ∙ (one_value ∙ ap Some (kept_depth (depth_in old i) d e u is (ap (depth_in old) (sym same) ∙ at)))
    | inr ne ↦ one_other c ne ∙ at
  ]

  one_added : (c e : ℕ) → depth_in new c ≡ Some e → (depth_in old c ≡ Some e) ⊎ ((e ≡ d) × (c ≡ i) × (depth_in old c ≡ None))
  one_added c e at = elim (cases_eq c i) [
    | inl same ↦ elim (added_depth (depth_in old i) d e u is (sym one_value ∙ (ap (depth_in new) (sym same) ∙ at))) [
      | inl o ↦ inl (ap (depth_in old) same ∙ o)
      | inr (f, n) ↦ inr (f, same, ap (depth_in old) same ∙ n)
    ]
    | inr ne ↦ inl (sym (one_other c ne) ∙ at)
  ]

  one_count : unknown_count new + is_unknown (depth_in old i) ≡ unknown_count old
  one_count = let e = sum_by-set is_unknown old i (Some u) None lt in omega (arith, e)

unknown_none : (o : Option ℕ) → none o ≡ true → is_unknown o ≡ 1
unfolding none
unknown_none None e = refl
unknown_none (Some f) e = absurd (true≢false (sym e))

known_some : (o : Option ℕ) → none o ≡ false → (e : ℕ) × (o ≡ Some e)
unfolding none
known_some None e = absurd (true≢false e)
known_some (Some f) e = (f, refl)

pub deepened : (old : List (Option ℕ)) (p d u w : ℕ) (changed : Bool) → 2 * p + 1 < length old → u ≡ unwrap_or (depth_in old (2 * p)) d → w ≡ unwrap_or (depth_in old (2 * p + 1)) d → changed ≡ (none (depth_in old (2 * p + 1)) || none (depth_in old (2 * p))) → IsDeepened old p d (slice_set (slice_set old (2 * p) (Some u)) (2 * p + 1) (Some w)) changed
deepened old p d u w changed lt isu isw is = record {
  one_each = length-set mid (2 * p + 1) (Some w) ∙ length-set old (2 * p) (Some u);
  kept = λ c e at. one_kept mid (2 * p + 1) d w lt2 isw2 c e (one_kept old (2 * p) d u lt1 isu c e at);
  added = λ c e at. elim (one_added mid (2 * p + 1) d w lt2 isw2 c e at) [
    | inl o ↦ elim (one_added old (2 * p) d u lt1 isu c e o) [ inl q ↦ inl q | inr (f, here, n) ↦ inr (f, omega (arith, here), n) ]
    | inr (f, here, n) ↦ inr (f, omega (arith, here), sym (one_other old (2 * p) d u lt1 isu c (λ s. omega (arith, s, here))) ∙ n)
  ];
  all = λ c at. elim (even_or_odd c p at) [
    | inl here ↦ (u, one_kept mid (2 * p + 1) d w lt2 isw2 c u (ap (depth_in mid) here ∙ one_value old (2 * p) d u lt1 isu))
    | inr here ↦ (w, ap (depth_in (slice_set mid (2 * p + 1) (Some w))) here ∙ one_value mid (2 * p + 1) d w lt2 isw2)
  ];
  low = omega (arith, count1, count2);
  falls = λ e. elim (or_cases (none (depth_in old (2 * p + 1))) (none (depth_in old (2 * p))) (sym is ∙ e)) [
    | inl n ↦ let one = unknown_none (depth_in old (2 * p + 1)) n in let m = ap is_unknown same in omega (arith, one, m, count1, count2)
    | inr n ↦ let one = unknown_none (depth_in old (2 * p)) n in omega (arith, one, count1, count2)
  ];
  same = λ e c at.
      let (n, m) = or_parts (none (depth_in old (2 * p + 1))) (none (depth_in old (2 * p))) (sym is ∙ e) in
      elim (even_or_odd c p at) [
        | inl here ↦ let (f, q) = known_some (depth_in old (2 * p)) m in (f, ap (depth_in old) here ∙ q)
        | inr here ↦ let (f, q) = known_some (depth_in old (2 * p + 1)) n in (f, ap (depth_in old) here ∙ q)
      ];
}
  where
    mid : List (Option ℕ)
    mid = slice_set old (2 * p) (Some u)

    lt1 : 2 * p < length old
    lt1 = omega (arith, lt)

    lt2 : 2 * p + 1 < length (slice_set old (2 * p) (Some u))
    lt2 = let l = length-set old (2 * p) (Some u) in omega (arith, l, lt)

    same : depth_in (slice_set old (2 * p) (Some u)) (2 * p + 1) ≡ depth_in old (2 * p + 1)
    same = one_other old (2 * p) d u lt1 isu (2 * p + 1) (λ s. omega (arith, s))

    isw2 : w ≡ unwrap_or (depth_in (slice_set old (2 * p) (Some u)) (2 * p + 1)) d
    isw2 = isw ∙ ap (λ o. unwrap_or o d) (sym same)

    count1 : unknown_count (slice_set old (2 * p) (Some u)) + is_unknown (depth_in old (2 * p)) ≡ unknown_count old
    count1 = one_count old (2 * p) d u lt1 isu

    count2 : unknown_count (slice_set (slice_set old (2 * p) (Some u)) (2 * p + 1) (Some w)) + is_unknown (depth_in (slice_set old (2 * p) (Some u)) (2 * p + 1)) ≡ unknown_count (slice_set old (2 * p) (Some u))
    count2 = one_count (slice_set old (2 * p) (Some u)) (2 * p + 1) d w lt2 isw2

pub none_is : (o : Option ℕ) (r : Bool) → is_some o ≡ not r → r ≡ none o
unfolding none
none_is None true e = refl
none_is None false e = absurd (true≢false (sym e))
none_is (Some f) true e = absurd (true≢false e)
none_is (Some f) false e = refl

pub read_depth : (xs : List (Option ℕ)) (i : ℕ) (o : Option ℕ) → i < length xs → o ≡ slice_index_or xs i o → depth_in xs i ≡ o
read_depth xs i o lt e = get_or_from_slice_get xs i o None (slice_get_read xs (length xs) i o refl lt e)
