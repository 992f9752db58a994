-- Rows of pairs.
use Rattle.std.proofs.Common.{◌≡◌, ◌≤◌, ◌<◌, ◌+◌, ◌*◌, ◌/◌, ℕ, List, [], length, All, Contains, inl, inr, subst, sym, ap, arith, get_or, Option, Some, None, slice_get, refl, ◌∙◌, subst₂}
use Rattle.std.specs.Prelude.{MatchOption}
use Rattle.std.proofs.lemmas.Bool.{cases_eq}
use Rattle.std.proofs.lemmas.Option.{same_Some, slice_get_within, get_or_from_slice_get, slice_get-get_or}
use Rattle.std.specs.Prelude.{slice_index_or}
use Rattle.std.proofs.lemmas.List.Elements.{All-contains}
use Rattle.lw_facts.proofs.Lists.{contains_map, contained_in_map}
use Rattle.lw_laws.specs.Graphs.{Graph, HoldsPair, Pair as PlainPair}
use Rattle.lw_graph.specs.declared.pair.Pair.{Pair}
use Rattle.lw_graph.specs.Graphs.{plain_pair, plain_row}
use Rattle.lw_lut.specs.Searches.{IsBoundedAt, count_at}

Some_not_None : {p : Pair} → Some p ≡ None → {A : Type 0} → A
Some_not_None e = absurd (subst (λ o. elim o as (λ q. Type 0) [ Some q ↦ Unit {0} | None ↦ ⊥ ]) e tt)

module _ (g : Graph) (c : ℕ) (row : List Pair) (is : plain_row row ≡ slice_index_or g.pairs c []) where
  pub row_holds : (p : Pair) → Contains row p → HoldsPair g c p.x.0 p.y.0
  row_holds p h = inl (subst (λ r. Contains r (plain_pair p)) is (contains_map plain_pair row p h))

  pub row_bounds : (counts : List ℕ) (n : ℕ) → n ≡ count_at counts c → All (λ (p : Pair). n ≤ count_at counts p.x.0 + count_at counts p.y.0) row → IsBoundedAt g counts c
  row_bounds counts n same all x y h = elim h [ inl k ↦ here x y k | inr k ↦ let le = here y x k in omega (arith, le) ]
    where
      here : (a b : ℕ) → Contains (slice_index_or g.pairs c []) (record { x = a; y = b }) → count_at counts c ≤ count_at counts a + count_at counts b
      here a b k =
          let (q, found, e) = contained_in_map plain_pair row (record { x = a; y = b }) (subst (λ r. Contains r (record { x = a; y = b })) (sym is) k) in
          let ex : q.x.0 ≡ a = ap (λ (p : PlainPair). p.x) e in
          let ey : q.y.0 ≡ b = ap (λ (p : PlainPair). p.y) e in
          let le : n ≤ count_at counts q.x.0 + count_at counts q.y.0 = All-contains (λ (p : Pair). n ≤ count_at counts p.x.0 + count_at counts p.y.0) row q all found in
          subst (λ m. m ≤ count_at counts a + count_at counts b) same (subst₂ (λ s t. n ≤ count_at counts s + count_at counts t) ex ey le)

pub half_below : (n m k : ℕ) → n < m → m ≡ 2 * k → n / 2 < k
half_below n m k lt e = omega arith

abbrev pub leaves_at : List ℕ → Pair → ℕ
leaves_at counts p = count_at counts p.x.0 + count_at counts p.y.0

-- the pair with the fewest leaves of the first ones, if it has fewer than the class
pub record IsBest (counts : List ℕ) (row : List Pair) (c best : ℕ) (found : Option Pair) (seen : ℕ) : Type 0 where
  pub low : best ≤ count_at counts c
  pub some : (p : Pair) → found ≡ Some p → Contains row p × (leaves_at counts p < count_at counts c)
  pub none : found ≡ None → best ≡ count_at counts c
  pub bounds : (k : ℕ) (q : Pair) → k < seen → slice_get row k ≡ Some q → best ≤ leaves_at counts q

module _ (counts : List ℕ) (row : List Pair) (c best : ℕ) (found : Option Pair) (seen : ℕ) (is : IsBest counts row c best found seen) (p : Pair) (at : slice_get row seen ≡ Some p) where
  step : (n : ℕ) → n ≤ best → n ≤ leaves_at counts p → (k : ℕ) (q : Pair) → k < seen + 1 → slice_get row k ≡ Some q → n ≤ leaves_at counts q
  step n low here k q lt e = elim (cases_eq k seen) [
    | inl same ↦ subst (λ r. n ≤ leaves_at counts r) (same_Some p q (sym at ∙ (ap (slice_get row) (sym same) ∙ e))) here
    | inr ne ↦ let b = is.bounds k q (omega (arith, lt, ne)) e in omega (arith, b, low)
  ]

  pub best_less : leaves_at counts p < best → IsBest counts row c (leaves_at counts p) (Some p) (seen + 1)
  best_less less = record {
    low = let l = is.low in omega (arith, l, less);
    some = λ q e. let l = is.low in subst (λ r. Contains row r × (leaves_at counts r < count_at counts c)) (same_Some p q e) ((seen, slice_get_within row seen p at, get_or_from_slice_get row seen p p at), omega (arith, l, less));
    none = λ e. Some_not_None e;
    bounds = step (leaves_at counts p) (omega (arith, less)) (omega arith);
  }

  pub best_same : best ≤ leaves_at counts p → IsBest counts row c best found (seen + 1)
  best_same le = record { low = is.low; some = is.some; none = is.none; bounds = step best (omega arith) le }

pub best_all : (counts : List ℕ) (row : List Pair) (c best seen : ℕ) (found : Option Pair) → length row ≤ seen → IsBest counts row c best found seen → All (λ (p : Pair). best ≤ leaves_at counts p) row
best_all counts row c best seen found all is k d lt = is.bounds k (get_or row k d) (omega (arith, lt, all)) (slice_get-get_or row k d lt)

pub best_is : (found : Option Pair) (N : Type 0) (Q : Pair → Type 0) → (found ≡ None → N) → ((p : Pair) → found ≡ Some p → Q p) → MatchOption found N Q
best_is None N Q none some = none refl
best_is (Some p) N Q none some = some p refl
