-- Spans of places, and counts that fall.
use Rattle.std.proofs.Common.{ℕ, Bool, true, false, ◌||◌, Some, true≢false, min, refl, ◌+◌, ◌/◌, ◌<◌, ◌≤◌, ◌≡◌, inl, inr, List, [], length, take, get_or, Contains, slice_index, slice_set, slice_index_or, sym, ap, ◌∙◌, subst, subst₂, arith}
use Rattle.std.proofs.lemmas.List.{take_more}
use Rattle.std.proofs.lemmas.List.Elements.{Contains-push_cases}
use Rattle.std.proofs.lemmas.Bool.{cases_eq}
use Rattle.lw_facts.proofs.Lists.{contained_in_map}
use Rattle.lw_laws.specs.Graphs.{Graph, HoldsPair, Pair as PlainPair}
use Rattle.lw_graph.specs.declared.pair.Pair.{Pair}
use Rattle.lw_graph.specs.Graphs.{plain_pair, plain_row}
use Rattle.lw_lut.specs.Reaches.{AreKnownBut, AreReaches, IsIn, IsWithin, FallsAt, span_at, IsSeen}
use Rattle.lw_lut.specs.Searches.{AreSettled, IsBoundedAt, IsDeepened, IsKnown, depth_in, unknown_count}
use Rattle.lw_lut.specs.declared.span.Span.{Span}
use Rattle.lw_lut.specs.declared.search.Search.{Search}
use native.Mathlib.Decide.{dec_lt}
use Rattle.lw_lut.proofs.Places.{number_set, none_some}

-- what holds of each pair of a row holds of those that the class holds
pub row_seen : (g : Graph) (c : ℕ) (row : List Pair) → plain_row row ≡ slice_index_or g.pairs c [] → (reach : List Span) → ((p : Pair) → Contains row p → IsSeen reach c p.x.0 p.y.0) → (x y : ℕ) → HoldsPair g c x y → IsSeen reach c x y
row_seen g c row is reach all x y h = elim h [ inl k ↦ here x y k | inr k ↦ let (a, b) = here y x k in (b, a) ]
  where
    here : (a b : ℕ) → Contains (slice_index_or g.pairs c []) (record { x = a; y = b }) → IsSeen reach c a b
    here a b k =
        let (q, found, e) = contained_in_map plain_pair row (record { x = a; y = b }) (subst (λ r. Contains r (record { x = a; y = b })) (sym is) k) in
        let ex : q.x.0 ≡ a = ap (λ (p : PlainPair). p.x) e in
        let ey : q.y.0 ≡ b = ap (λ (p : PlainPair). p.y) e in
        subst₂ (λ s t. IsSeen reach c s t) ex ey (all q found)

-- the pairs so far and one more
pub seen_more : (old new : List Span) (c : ℕ) (row : List Pair) (k : ℕ) (d : Pair) → k < length row → ((j : ℕ) → IsWithin (span_at old j) (span_at new j)) → IsSeen new c (get_or row k d).x.0 (get_or row k d).y.0 → ((p : Pair) → Contains (take k row) p → IsSeen old c p.x.0 p.y.0) → (p : Pair) → Contains (take (k + 1) row) p → IsSeen new c p.x.0 p.y.0
seen_more old new c row k d lt grown last all p h = elim (Contains-push_cases (take k row) (get_or row k d) p (subst (λ ps. Contains ps p) (take_more row k d lt) h)) [
  | inl before ↦ let (a, b) = all p before in (grown (p.x.0 / 2) c a, grown (p.y.0 / 2) c b)
  | inr same ↦ subst (λ (q : Pair). IsSeen new c q.x.0 q.y.0) same last
]

-- where counts fall at one place, a class that is not in the span stays bounded
pub still_bounded : (g : Graph) (reach : List Span) → AreReaches g reach → (old new : List ℕ) (place : ℕ) (span : Span) → FallsAt reach old new place span → (c : ℕ) → (IsIn span c → ⊥) → IsBoundedAt g old c → IsBoundedAt g new c
still_bounded g reach are old new place span falls c out bounded x y h =
    let (a, b) = are c x y h in
    let one = same (x / 2) a in
    let two = same (y / 2) b in
    let le = bounded x y h in
    let few = falls.fewer (c / 2) in
    omega (arith, one, two, le, few)
  where
    same : (k : ℕ) → IsIn (span_at reach k) c → slice_index new k ≡ slice_index old k
    same k in_span = elim (cases_eq k place) [
      | inl here ↦ elim (cases_eq (slice_index new place) (slice_index old place)) [
        | inl e ↦ ap (slice_index new) here ∙ (e ∙ ap (slice_index old) (sym here))
        | inr ne ↦ absurd (out (falls.seen ne c (subst (λ j. IsIn (span_at reach j) c) here in_span)))
      ]
      | inr other ↦ falls.elsewhere k other
    ]

-- One number that is set lower.

pub set_fewer : (xs : List ℕ) (i n : ℕ) → i < length xs → n ≤ slice_index xs i → (k : ℕ) → slice_index (slice_set xs i n) k ≤ slice_index xs k
set_fewer xs i n lt le k = elim (number_set xs i n k lt) [
  | inl (same, e) ↦ let at : slice_index xs k ≡ slice_index xs i = ap (slice_index xs) same in omega (arith, e, le, at)
  | inr (other, e) ↦ omega (arith, e)
]

pub set_elsewhere : (xs : List ℕ) (i n : ℕ) → i < length xs → (k : ℕ) → (k ≡ i → ⊥) → slice_index (slice_set xs i n) k ≡ slice_index xs k
set_elsewhere xs i n lt k other = elim (number_set xs i n k lt) [ inl (same, e) ↦ absurd (other same) | inr (o, e) ↦ e ]

pub set_same : (xs : List ℕ) (i n : ℕ) → i < length xs → n ≡ slice_index xs i → slice_index (slice_set xs i n) i ≡ slice_index xs i
set_same xs i n lt e = elim (number_set xs i n i lt) [ inl (same, f) ↦ f ∙ e | inr (o, f) ↦ f ]

-- Settled places.

pub settled_start : (most d : ℕ) (s : Search) (swept : Span) (first : ℕ) → first ≤ length s.counts.items → first ≤ swept.low / 2 → AreKnownBut most s.counts.items s.depths.items swept → AreSettled most d s s first false
settled_start most d s swept first within before known = record {
  kept = λ c e at. at;
  added = λ c e at. inl at;
  all = λ c lt few. known c (omega (arith, lt, within)) (λ q e i. let f = i.first in omega (arith, e, f, lt, before)) few;
  later = λ k le. refl;
  one_each = refl;
  falls = λ e. absurd (true≢false (sym e));
  low = omega arith;
  same = λ e c n at. at;
}

pub settled_rest : (most d : ℕ) (old new : Search) (swept : Span) (place : ℕ) (changed : Bool) → AreSettled most d old new place changed → AreKnownBut most old.counts.items old.depths.items swept → place ≤ length old.counts.items → min (swept.high / 2 + 1) (length old.counts.items) ≤ place → AreSettled most d old new (length old.counts.items) changed
settled_rest most d old new swept place changed is known within end = record {
  kept = is.kept;
  added = is.added;
  all = λ c lt few. elim (dec_lt (c / 2) place) [
    | yes before ↦ is.all c before few
    | no after ↦ let (e, at) = known c lt (λ q e i. let l = i.last in omega (arith, e, l, after, end, lt)) few in (e, is.kept c e at)
  ];
  later = λ k le. is.later k (omega (arith, le, within));
  one_each = is.one_each;
  falls = is.falls;
  low = is.low;
  same = is.same;
}

-- one more place whose classes have a depth
pub settled_more : (most d p : ℕ) (first old new : Search) (changed deeper : Bool) → p < length old.counts.items → slice_index old.counts.items p ≤ most → IsDeepened old.depths.items p d new.depths.items deeper → length new.counts.items ≡ length old.counts.items → ((k : ℕ) → (k ≡ p → ⊥) → slice_index new.counts.items k ≡ slice_index old.counts.items k) → AreSettled most d first old p changed → AreSettled most d first new (p + 1) (deeper || changed)
settled_more most d p first old new changed deeper within few deep long elsewhere is = record {
  kept = λ c e at. deep.kept c e (is.kept c e at);
  added = λ c e at. elim (deep.added c e at) [
    | inl o ↦ is.added c e o
    | inr (same, here, none) ↦
        let now : slice_index first.counts.items (c / 2) ≡ slice_index first.counts.items p = ap (slice_index first.counts.items) here in
        let was = is.later p (omega arith) in
        let one = is.one_each in
        inr (same, omega (arith, now, was, few), omega (arith, here, within, one))
  ];
  all = λ c lt low. elim (cases_eq (c / 2) p) [
    | inl here ↦ deep.all c here
    | inr other ↦ let (e, at) = is.all c (omega (arith, lt, other)) low in (e, deep.kept c e at)
  ];
  later = λ k le. elsewhere k (λ e. omega (arith, e, le)) ∙ is.later k (omega (arith, le));
  one_each = long ∙ is.one_each;
  falls = falls deeper changed deep.falls is.falls;
  low = let a = deep.low in let b = is.low in omega (arith, a, b);
  same = same deeper changed deep.same is.same;
}
  where
    falls : (r b : Bool) → (r ≡ true → unknown_count new.depths.items < unknown_count old.depths.items) → (b ≡ true → unknown_count old.depths.items < unknown_count first.depths.items) → (r || b) ≡ true → unknown_count new.depths.items < unknown_count first.depths.items
    falls true b f g e = let a = f refl in let l = is.low in omega (arith, a, l)
    falls false true f g e = let a = g refl in let l = deep.low in omega (arith, a, l)
    falls false false f g e = absurd (true≢false (sym e))

    same : (r b : Bool) → (r ≡ false → (c : ℕ) → c / 2 ≡ p → IsKnown old.depths.items c) → (b ≡ false → (c e : ℕ) → depth_in old.depths.items c ≡ Some e → depth_in first.depths.items c ≡ Some e) → (r || b) ≡ false → (c e : ℕ) → depth_in new.depths.items c ≡ Some e → depth_in first.depths.items c ≡ Some e
    same true b f g n c e at = absurd (true≢false n)
    same false true f g n c e at = absurd (true≢false n)
    same false false f g n c e at = elim (deep.added c e at) [
      | inl o ↦ g refl c e o
      | inr (s, here, none) ↦ let (x, known) = f refl c here in none_some (sym none ∙ known)
    ]
