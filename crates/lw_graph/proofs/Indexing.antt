-- An index that is filled class by class, and what is found in it.
use Rattle.std.proofs.Common.{ℕ, zero, suc, ◌+◌, ◌^◌, ◌<◌, ◌≤◌, ◌≡◌, ◌↔◌, ◌⊎◌, inl, inr, nat_lt, Bool, true, false, List, [], ◌∷◌, ◌++◌, length, map, get_or, Contains, refl, ap, sym, ◌∙◌, subst, arith}
use native.Mathlib.Decide.{ℕ_discrete, dec_lt}
use Rattle.std.specs.List.{slice_range}
use Rattle.std.specs.List.Sorted.{IsNonDecreasingBy, IsPermutation, IsPartitionedBy, IsPartitionPoint}
use Rattle.std.specs.Prelude.{slice_index, slice_index_or}
use Rattle.std.proofs.lemmas.List.{get_or_past}
use Rattle.std.proofs.lemmas.List.Elements.{Contains-append_left, Contains-append_right, Contains-append_cases}
use Rattle.std.proofs.lemmas.List.Sorted.{Contains-permutation, IsPermutation-sym}
use Rattle.std.proofs.lemmas.Option.{get_or_from_slice_get}
use Rattle.std.proofs.lemmas.Bool.{ltb-false, lt-ltb}
use Rattle.lw_facts.proofs.Lists.{contained_in_map, contains_map}
use Rattle.lw_pool.specs.declared.id.ClassId.{ClassId}
use Rattle.lw_graph.specs.declared.pair.Pair.{Pair}
use Rattle.lw_graph.specs.declared.index.Entry.{Entry}
use Rattle.lw_graph.specs.Index.{IsIndex, entry_key, entry_of, pair_key}
use Rattle.lw_graph.specs.Rows.{rows_from, start_at}
use Rattle.lw_graph.proofs.Rows.{row_at, length-rows_from}

-- the pairs of a class are those that the pool lends for it
pub row_is : (pairs : List Pair) (ends : List ℕ) (c : ℕ) (row : List Pair) → c < length ends → row ≡ slice_range pairs (start_at 0 ends c) (slice_index ends c) → slice_index_or (rows_from pairs 0 ends) c [] ≡ row
row_is pairs ends c row lt e =
    get_or_from_slice_get (rows_from pairs 0 ends) c (slice_range pairs (start_at 0 ends c) (slice_index ends c)) [] (row_at pairs 0 ends c lt) ∙ sym e

-- a class past the last has none
pub none_past : (pairs : List Pair) (ends : List ℕ) (c : ℕ) (p : Pair) → Contains (slice_index_or (rows_from pairs 0 ends) c []) p → c < length ends
none_past pairs ends c p (k, lt, e) = by_order (dec_lt c (length ends)) where
  by_order : Dec (c < length ends) → c < length ends
  by_order (yes l) = l
  by_order (no ge) =
      let n = length-rows_from pairs 0 ends in
      let z = ap length (get_or_past (rows_from pairs 0 ends) c [] (omega arith)) in
      absurd (omega arith)

module _ (rows : List (List Pair)) where
  abbrev pub ListsBelow : ℕ → List Entry → Type 0
  ListsBelow n entries =
      (e : Entry) → Contains entries e ↔ ((e.class.0 < n) × Contains (slice_index_or rows e.class.0 []) e.pair)

  -- those of one class more
  pub lists_more : (n : ℕ) (class : ClassId) (row : List Pair) (old new : List Entry) → class.0 ≡ n → slice_index_or rows n [] ≡ row → new ≡ old ++ map (entry_of class) row → ListsBelow n old → ListsBelow (n + 1) new
  lists_more n class row old new at is added below e = (to, from) where
    to : Contains new e → (e.class.0 < n + 1) × Contains (slice_index_or rows e.class.0 []) e.pair
    to c = by_side (Contains-append_cases old (map (entry_of class) row) e (subst (λ es. Contains es e) added c)) where
      by_side : Contains old e ⊎ Contains (map (entry_of class) row) e → (e.class.0 < n + 1) × Contains (slice_index_or rows e.class.0 []) e.pair
      by_side (inl o) = let (lt, h) = (below e).0 o in (omega arith, h)
      by_side (inr r) =
          let (p, h, s) = contained_in_map (entry_of class) row e r in
          let k : e.class.0 ≡ n = ap (λ (d : Entry). d.class.0) (sym s) ∙ at in
          (omega arith, subst (λ d. Contains (slice_index_or rows d []) e.pair) (sym k) (subst (λ ps. Contains ps e.pair) (sym is) (subst (λ (d : Entry). Contains row d.pair) s h)))

    from : (e.class.0 < n + 1) × Contains (slice_index_or rows e.class.0 []) e.pair → Contains new e
    from (lt, c) = subst (λ es. Contains es e) (sym added) (by_class (ℕ_discrete e.class.0 n)) where
      by_class : Dec (e.class.0 ≡ n) → Contains (old ++ map (entry_of class) row) e
      by_class (yes k) =
          let same : entry_of class e.pair ≡ e = λ i. record { pair = e.pair; class = record { 0 = (at ∙ sym k) i } } in
          let h : Contains row e.pair = subst (λ ps. Contains ps e.pair) is (subst (λ d. Contains (slice_index_or rows d []) e.pair) k c) in
          Contains-append_right old (map (entry_of class) row) e (subst (λ d. Contains (map (entry_of class) row) d) same (contains_map (entry_of class) row e.pair h))
      by_class (no ne) = Contains-append_left old (map (entry_of class) row) e ((below e).1 (omega arith, c))

pub lists_all : (pairs : List Pair) (ends : List ℕ) (n : ℕ) (entries : List Entry) → length ends ≤ n → ListsBelow (rows_from pairs 0 ends) n entries → (e : Entry) → Contains entries e ↔ Contains (slice_index_or (rows_from pairs 0 ends) e.class.0 []) e.pair
lists_all pairs ends n entries le below e = (
  λ c. ((below e).0 c).1,
  λ c. let lt = none_past pairs ends e.class.0 e.pair c in (below e).1 (omega arith, c),
)

pub index_sorted : (rows : List (List Pair)) (old new : List Entry) → ((e : Entry) → Contains old e ↔ Contains (slice_index_or rows e.class.0 []) e.pair) → IsPermutation old new → IsNonDecreasingBy entry_key new → IsIndex rows new
index_sorted rows old new listed perm rises = record {
  listed = λ e. (λ c. (listed e).0 (Contains-permutation new old e (IsPermutation-sym old new perm) c), λ c. Contains-permutation old new e perm ((listed e).1 c));
  sorted = rises;
}

-- the test of a search in an index
abbrev pub is_lower : ℕ → Entry → Bool
is_lower wanted e = nat_lt (entry_key e) wanted

lower : (a b : ℕ) → nat_lt a b ≡ true → a < b
lower a b e = grind (arith, e)

pub index_partitioned : (entries : List Entry) (wanted : ℕ) → IsNonDecreasingBy entry_key entries → IsPartitionedBy (is_lower wanted) entries
index_partitioned entries wanted rises i j d le lt e =
    let l = lower (entry_key (get_or entries j d)) wanted e in
    let r = rises i j d le lt in
    lt-ltb (entry_key (get_or entries i d)) wanted (omega arith)

-- equal keys have equal pairs
pub same_by_key : (p q : Pair) → p.y.0 < 2 ^ 32 → q.y.0 < 2 ^ 32 → pair_key p ≡ pair_key q → p ≡ q
same_by_key p q a b e =
    let x : p.x.0 ≡ q.x.0 = omega arith in
    let y : p.y.0 ≡ q.y.0 = omega arith in
    λ i. record { x = record { 0 = x i }; y = record { 0 = y i } }

module _ (entries : List Entry) (wanted place : ℕ) (pair : Pair) (rises : IsNonDecreasingBy entry_key entries) (point : IsPartitionPoint (λ e. is_lower wanted e ≡ true) (λ e. is_lower wanted e ≡ false) entries place) (is : wanted ≡ pair_key pair) where
  -- no entry before the place has the pair
  at_or_after : (c : ClassId) (k : ℕ) → k < length entries → get_or entries k (entry_of c pair) ≡ entry_of c pair → place ≤ k
  at_or_after c k lt e = by_order (dec_lt k place) where
    by_order : Dec (k < place) → place ≤ k
    by_order (no ge) = omega arith
    by_order (yes l) =
        let h = lower (entry_key (get_or entries k (entry_of c pair))) wanted (point.0 k (entry_of c pair) (omega arith) l) in
        let s : entry_key (get_or entries k (entry_of c pair)) ≡ pair_key pair = ap entry_key e in
        absurd (omega arith)

  pub none_after : length entries ≤ place → (c : ClassId) → Contains entries (entry_of c pair) → ⊥
  none_after le c (k, lt, e) = let h = at_or_after c k lt e in omega arith

  pub none_there : (d : Entry) → place < length entries → (entry_key (get_or entries place d) ≡ wanted → ⊥) → (c : ClassId) → Contains entries (entry_of c pair) → ⊥
  none_there d in' ne c (k, lt, e) =
      let h = at_or_after c k lt e in
      let r = rises place k (entry_of c pair) h lt in
      let s : entry_key (get_or entries k (entry_of c pair)) ≡ pair_key pair = ap entry_key e in
      let n = ltb-false (entry_key (get_or entries place (entry_of c pair))) wanted (point.1 place (entry_of c pair) (omega arith) in') in
      let m : get_or entries place (entry_of c pair) ≡ get_or entries place d = default_same entries place (entry_of c pair) d in' in
      let q = ap entry_key m in
      ne (omega arith)
    where
      default_same : (xs : List Entry) (k : ℕ) (d e : Entry) → k < length xs → get_or xs k d ≡ get_or xs k e
      default_same [] k d e lt = absurd (omega arith)
      default_same (x ∷ xs) zero d e lt = refl
      default_same (x ∷ xs) (suc k) d e lt = default_same xs k d e (omega arith)
