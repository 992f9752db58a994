-- The class that holds an unordered pair, by the pair with its lower class first.
use Rattle.std.proofs.Common.{ℕ, zero, suc, ◌<◌, ◌≤◌, ◌≡◌, ◌⊎◌, inl, inr, min, max, List, [], ◌∷◌, length, map, Contains, ap, sym, ◌∙◌, subst, arith}
use Rattle.std.proofs.Math.ListN as plain_lists
use Rattle.std.specs.Prelude.{Option, Some, None, MatchOption, IfSome, IsNone, slice_index_or}
use Rattle.lw_facts.proofs.Lists.{contains_map, contained_in_map}
use Rattle.lw_facts.proofs.Numbers.{min_max_cases}
use Rattle.lw_laws.specs.Graphs.{Graph as PlainGraph, Pair as PlainPair, AreRising, HoldsPair}
use Rattle.lw_pool.specs.declared.id.ClassId.{ClassId}
use Rattle.lw_graph.specs.declared.pair.Pair.{Pair}
use Rattle.lw_graph.specs.Graphs.{plain_graph, plain_pair, plain_row, IsGraph, flat_graph}
use Rattle.lw_graph.specs.Ordered.{ordered_pair}
use Rattle.lw_graph.specs.Index.{IsIndex, entry_of}
use Rattle.lw_graph.specs.Rows.{rows_from}
use Rattle.lw_graph.specs.declared.index.Entry.{Entry}
use Rattle.lw_graph.proofs.Graphs.{class_count}
use Rattle.lw_graph.proofs.Indexing.{none_past}

rising_ordered : (ps : List PlainPair) (p : PlainPair) → AreRising ps → Contains ps p → p.x ≤ p.y
rising_ordered [] p r (k, lt, e) = absurd (omega arith)
rising_ordered (q ∷ ps) p (o, b, r) (zero, lt, e) = subst (λ (z : PlainPair). z.x ≤ z.y) e o
rising_ordered (q ∷ ps) p (o, b, r) (suc k, lt, e) = rising_ordered ps p r (k, omega arith, e)

module _ (one : ClassId) (leaves forms : List ClassId) (rows : List (List Pair)) where
  at : (c : ℕ) → slice_index_or (map plain_row rows) c [] ≡ plain_row (slice_index_or rows c [])
  at c = plain_lists.get_or-map plain_row rows c []

  pub holds_pair : (c x y : ℕ) → Contains (slice_index_or rows c []) (ordered_pair x y) → HoldsPair (plain_graph one leaves forms rows) c x y
  holds_pair c x y h = by_order (min_max_cases x y) where
    there : (a b : ℕ) → min x y ≡ a → max x y ≡ b → Contains (slice_index_or (map plain_row rows) c []) (record { x = a; y = b })
    there a b s t =
        let p : plain_pair (ordered_pair x y) ≡ record { x = a; y = b } = λ i. record { x = s i; y = t i } in
        subst (λ row. Contains row (record { x = a; y = b })) (sym (at c)) (subst (λ q. Contains (plain_row (slice_index_or rows c [])) q) p (contains_map plain_pair (slice_index_or rows c []) (ordered_pair x y) h))

    by_order : ((min x y ≡ x) × (max x y ≡ y)) ⊎ ((min x y ≡ y) × (max x y ≡ x)) → HoldsPair (plain_graph one leaves forms rows) c x y
    by_order (inl (s, t)) = inl (there x y s t)
    by_order (inr (s, t)) = inr (there y x s t)

  pub pair_held : (c x y : ℕ) → AreRising (slice_index_or (map plain_row rows) c []) → HoldsPair (plain_graph one leaves forms rows) c x y → Contains (slice_index_or rows c []) (ordered_pair x y)
  pair_held c x y r = by_side where
    here : (a b : ℕ) → (a ≤ b → (min x y ≡ a) × (max x y ≡ b)) → Contains (slice_index_or (map plain_row rows) c []) (record { x = a; y = b }) → Contains (slice_index_or rows c []) (ordered_pair x y)
    here a b f h =
        let (s, t) = f (rising_ordered (slice_index_or (map plain_row rows) c []) (record { x = a; y = b }) r h) in
        let (q, k, e) = contained_in_map plain_pair (slice_index_or rows c []) (record { x = a; y = b }) (subst (λ row. Contains row (record { x = a; y = b })) (at c) h) in
        let ex : q.x.0 ≡ a = ap (λ (p : PlainPair). p.x) e in
        let ey : q.y.0 ≡ b = ap (λ (p : PlainPair). p.y) e in
        let same : q ≡ ordered_pair x y = λ i. record { x = record { 0 = (ex ∙ sym s) i }; y = record { 0 = (ey ∙ sym t) i } } in
        subst (λ p. Contains (slice_index_or rows c []) p) same k

    by_side : HoldsPair (plain_graph one leaves forms rows) c x y → Contains (slice_index_or rows c []) (ordered_pair x y)
    by_side (inl h) = here x y (λ le. (omega arith, omega arith)) h
    by_side (inr h) = here y x (λ le. (omega arith, omega arith)) h

-- the class that has the pair in its row, or none where no row has it
abbrev pub IsInRow : List (List Pair) → Pair → Option ClassId → Type 0
IsInRow rows p found =
    MatchOption found ((c : ℕ) → Contains (slice_index_or rows c []) p → ⊥) (λ c. Contains (slice_index_or rows c.0 []) p)

module _ (rows : List (List Pair)) (p : Pair) where
  pub row_some : (found : Option ClassId) (Q : ClassId → Type 0) → IsInRow rows p found → ((c : ClassId) → Contains (slice_index_or rows c.0 []) p → Q c) → IfSome found Q
  row_some (Some x) Q m f = f x m
  row_some None Q m f = tt

  pub row_none : (found : Option ClassId) → IsInRow rows p found → IsNone found → (c : ℕ) → Contains (slice_index_or rows c []) p → ⊥
  row_none (Some x) m e = cc
  row_none None m e = m

  pub row_listed : (index : List Entry) (found : Option ClassId) → IsIndex rows index → MatchOption found ((c : ClassId) → Contains index (entry_of c p) → ⊥) (λ c. Contains index (entry_of c p)) → IsInRow rows p found
  row_listed index (Some x) lists m = (lists.listed (entry_of x p)).0 m
  row_listed index None lists m = λ c h. m (record { 0 = c }) ((lists.listed (entry_of (record { 0 = c }) p)).1 h)

-- what a look at each class finds, and what an index does
module _ (one : ClassId) (leaves forms : List ClassId) (ends : List ℕ) (pairs : List Pair) (g : PlainGraph) (kept : IsGraph (flat_graph one leaves forms ends pairs)) (is : flat_graph one leaves forms ends pairs ≡ g) (x y : ℕ) (result : Option ClassId) where
  abbrev rows : List (List Pair)
  rows = rows_from pairs 0 ends

  module _ (found : IsInRow rows (ordered_pair x y) result) where
    pub sought_holds : IfSome result (λ (c : ClassId). HoldsPair g c.0 x y)
    sought_holds =
        row_some rows (ordered_pair x y) result (λ (c : ClassId). HoldsPair g c.0 x y) found (λ c h. subst (λ g. HoldsPair g c.0 x y) is (holds_pair one leaves forms rows c.0 x y h))

    pub sought_within : IfSome result (λ (c : ClassId). c.0 < length g.pairs)
    sought_within =
        row_some rows (ordered_pair x y) result (λ (c : ClassId). c.0 < length g.pairs) found (λ c h. let n = class_count one leaves forms ends pairs g is in let lt = none_past pairs ends c.0 (ordered_pair x y) h in omega arith)

    pub sought_none : IsNone result → (c : ℕ) → HoldsPair g c x y → ⊥
    sought_none e c h =
        row_none rows (ordered_pair x y) result found e c (pair_held one leaves forms rows c x y (kept.rising c) (subst (λ g. HoldsPair g c x y) (sym is) h))
