-- Where the rows of classes start.
use Rattle.std.proofs.Common.{ℕ, zero, suc, ◌⊎◌, ◌+◌, ◌*◌, ◌<◌, ◌≤◌, ◌≡◌, List, [], ◌∷◌, ◌++◌, length, slice_index_or, refl, sym, subst, subst₂, ◌∙◌, inl, inr, arith}
use Rattle.std.proofs.Math.ListN.{get_or-append}
use Rattle.std.proofs.lemmas.List.{length-append, get_or_past, get_or_push}
use Rattle.std.proofs.Math.Nat.{mul-suc}
use native.Mathlib.Decide.{dec_lt, ℕ_discrete}
use Rattle.lw_laws.specs.Graphs.{Graph, Pair as PlainPair}
use Rattle.lw_graph.specs.declared.pair.Pair.{Pair}
use Rattle.lw_graph.specs.Graphs.{plain_row}
use Rattle.lw_bounds.specs.Numbers.{no_row, start_of, AreStarts}
use Rattle.lw_bounds.specs.Bounds.{AreApart}
use Rattle.lw_bounds.specs.Making.{row_count, rows_below}

-- the rows of the first n classes
pub record AreStartsBelow (width : ℕ) (starts : List ℕ) (size : ℕ) (g : Graph) (n : ℕ) : Type 0 where
  pub count : length starts ≡ n
  pub few : size ≤ width * rows_below g.pairs n
  pub rows : AreStarts width starts size
  pub bare : (c : ℕ) → c < n → start_of starts c ≡ no_row → slice_index_or g.pairs c [] ≡ []
  pub apart : AreApart width starts

-- the start of one more class
data IsOneOf (starts : List ℕ) (n start c : ℕ) : Type 0 where
  before : c < n → start_of (starts ++ start ∷ []) c ≡ start_of starts c → IsOneOf starts n start c
  here : c ≡ n → start_of (starts ++ start ∷ []) c ≡ start → IsOneOf starts n start c
  past : n < c → start_of (starts ++ start ∷ []) c ≡ no_row → IsOneOf starts n start c

one_of : (starts : List ℕ) (n start c : ℕ) → length starts ≡ n → IsOneOf starts n start c
one_of starts n start c size = by_place (dec_lt c n) (ℕ_discrete c n)
  where
    by_place : Dec (c < n) → Dec (c ≡ n) → IsOneOf starts n start c
    by_place (yes lt) d = before lt (get_or-append starts (start ∷ []) no_row c (omega arith))
    by_place (no ge) (yes e) = here e (get_or_push starts start no_row c (size ∙ sym e))
    by_place (no ge) (no ne) =
        past (omega arith) (get_or_past (starts ++ start ∷ []) c no_row (omega (arith, length-append starts (start ∷ []))))

-- one more class without a row, or with one
pub starts_more : (width : ℕ) (starts : List ℕ) (size more start : ℕ) (g : Graph) (n : ℕ) → size ≤ more → more ≤ width * rows_below g.pairs (n + 1) → (start ≡ no_row) ⊎ (start + width ≤ more) → (start ≡ no_row → slice_index_or g.pairs n [] ≡ []) → (start ≡ no_row) ⊎ (size ≤ start) → AreStartsBelow width starts size g n → AreStartsBelow width (starts ++ start ∷ []) more g (n + 1)
starts_more width starts size more start g n le most row bare behind h = record {
  count = let c = h.count in omega (arith, length-append starts (start ∷ []));
  few = most;
  rows = λ c. row_at c (one_of starts n start c h.count);
  bare = λ c lt e. bare_at c lt e (one_of starts n start c h.count);
  apart = λ c d other one two. apart_at c d other one two (one_of starts n start c h.count) (one_of starts n start d h.count);
}
  where
    wider : (s : ℕ) → (s ≡ no_row) ⊎ (s + width ≤ size) → (s ≡ no_row) ⊎ (s + width ≤ more)
    wider s (inl e) = inl e
    wider s (inr l) = inr (omega arith)

    row_at : (c : ℕ) → IsOneOf starts n start c → (start_of (starts ++ start ∷ []) c ≡ no_row) ⊎ (start_of (starts ++ start ∷ []) c + width ≤ more)
    row_at c (before lt is) =
        subst (λ (s : ℕ). (s ≡ no_row) ⊎ (s + width ≤ more)) (sym is) (wider (start_of starts c) (h.rows c))
    row_at c (here e is) = subst (λ (s : ℕ). (s ≡ no_row) ⊎ (s + width ≤ more)) (sym is) row
    row_at c (past gt is) = inl is

    bare_at : (c : ℕ) → c < n + 1 → start_of (starts ++ start ∷ []) c ≡ no_row → IsOneOf starts n start c → slice_index_or g.pairs c [] ≡ []
    bare_at c lt e (before l is) = h.bare c l (sym is ∙ e)
    bare_at c lt e (here same is) =
        subst (λ (k : ℕ). slice_index_or g.pairs k [] ≡ []) (sym same) (bare (sym is ∙ e))
    bare_at c lt e (past gt is) = absurd (omega arith)

    before_here : (b : ℕ) → (start_of starts b ≡ no_row → ⊥) → start_of starts b + width ≤ size
    before_here b some = elim (h.rows b) [ inl e ↦ absurd (some e) | inr le ↦ le ]

    last : (start ≡ no_row → ⊥) → size ≤ start
    last some = elim behind [ inl e ↦ absurd (some e) | inr le ↦ le ]

    apart_at : (c d : ℕ) → (c ≡ d → ⊥) → (start_of (starts ++ start ∷ []) c ≡ no_row → ⊥) → (start_of (starts ++ start ∷ []) d ≡ no_row → ⊥) → IsOneOf starts n start c → IsOneOf starts n start d → (start_of (starts ++ start ∷ []) c + width ≤ start_of (starts ++ start ∷ []) d) ⊎ (start_of (starts ++ start ∷ []) d + width ≤ start_of (starts ++ start ∷ []) c)
    apart_at c d other one two (before l is) (before k as') =
        subst₂ (λ (s t : ℕ). (s + width ≤ t) ⊎ (t + width ≤ s)) (sym is) (sym as') (h.apart c d other (λ e. one (is ∙ e)) (λ e. two (as' ∙ e)))
    apart_at c d other one two (before l is) (here same as') =
        let le = before_here c (λ e. one (is ∙ e)) in let first = last (λ e. two (as' ∙ e)) in inl (omega (arith, le, is, as', first))
    apart_at c d other one two (here same is) (before k as') =
        let le = before_here d (λ e. two (as' ∙ e)) in let first = last (λ e. one (is ∙ e)) in inr (omega (arith, le, is, as', first))
    apart_at c d other one two (here same is) (here too as') = absurd (other (same ∙ sym too))
    apart_at c d other one two (past gt is) at = absurd (one is)
    apart_at c d other one two (before l is) (past gt as') = absurd (two as')
    apart_at c d other one two (here same is) (past gt as') = absurd (two as')

-- a class whose row in the graph is empty has no pairs
pub bare_row : (row : List Pair) (ps : List PlainPair) → plain_row row ≡ ps → length row ≡ 0 → ps ≡ []
bare_row [] ps e none = sym e
bare_row (q ∷ row) ps e none = absurd (omega (arith, none))

-- a class whose row in the graph is not empty has pairs
pub filled_row : (row : List Pair) (ps : List PlainPair) → plain_row row ≡ ps → (length row ≡ 0 → ⊥) → row_count ps ≡ 1
filled_row [] ps e some = absurd (some refl)
filled_row (q ∷ row) ps e some = subst (λ (qs : List PlainPair). row_count qs ≡ 1) e refl

-- one more class
pub rows_next : (pairs : List (List PlainPair)) (n : ℕ) → rows_below pairs (n + 1) ≡ rows_below pairs n + row_count (slice_index_or pairs n [])
rows_next pairs n =
    let e : suc n ≡ n + 1 = omega arith in
    subst (λ (k : ℕ). rows_below pairs k ≡ rows_below pairs n + row_count (slice_index_or pairs n [])) e refl

-- one more class has no fewer rows
rows_step : (pairs : List (List PlainPair)) (n m : ℕ) → (n ≤ m → rows_below pairs n ≤ rows_below pairs m) → n ≤ suc m → Dec (n ≡ suc m) → rows_below pairs n ≤ rows_below pairs (suc m)
rows_step pairs n m rise le (yes e) =
    subst (λ (k : ℕ). rows_below pairs k ≤ rows_below pairs (suc m)) (sym e) (omega arith)
rows_step pairs n m rise le (no ne) =
    let below = rise (omega (arith, le, ne)) in
    let next : rows_below pairs (suc m) ≡ rows_below pairs m + row_count (slice_index_or pairs m []) = refl in
    omega (arith, below, next)

-- more classes have no fewer rows
pub rows_rise : (pairs : List (List PlainPair)) (n m : ℕ) → n ≤ m → rows_below pairs n ≤ rows_below pairs m
rows_rise pairs n zero le =
    let e : 0 ≡ n = omega (arith, le) in
    subst (λ (k : ℕ). rows_below pairs k ≤ 0) e (omega arith)
rows_rise pairs n (suc m) le = rows_step pairs n m (rows_rise pairs n m) le (ℕ_discrete n (suc m))

-- the rows of the first classes, no more than these
pub record AreRowsBelow (pairs : List (List PlainPair)) (n rows : ℕ) : Type 0 where
  pub is : rows ≡ rows_below pairs n
  pub few : rows ≤ n

-- the numbers of one more row
pub one_more_row : (width size : ℕ) (pairs : List (List PlainPair)) (n : ℕ) → size ≤ width * rows_below pairs n → row_count (slice_index_or pairs n []) ≡ 1 → size + width ≤ width * rows_below pairs (n + 1)
one_more_row width size pairs n few one =
    let count : rows_below pairs n + 1 ≡ rows_below pairs (n + 1) = let next = rows_next pairs n in omega (arith, next, one) in
    let product = mul-suc width (rows_below pairs n) in
    subst (λ (k : ℕ). size + width ≤ width * k) count (omega (arith, few, product))
