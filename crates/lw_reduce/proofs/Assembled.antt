-- The code's graph of settled representatives.
use Rattle.std.proofs.Common.{ℕ, ◌+◌, ◌-◌, ◌*◌, ◌<◌, ◌≡◌, ◌^◌, Bool, false, List, [], ◌∷◌, length, map, filter, drop, get_or, slice_index, replicate, All, Contains, ◌↔◌, refl, ap, sym, ◌∙◌, subst, subst₂, arith, length-drop}
use Rattle.std.specs.List.{slice_get, slice_range}
use Rattle.std.specs.Prelude.{Some, slice_index_or}
use Rattle.std.proofs.Math.ListN as plain_lists
use Rattle.std.proofs.lemmas.List.{get_or-take, get_or-drop, length-map, length-replicate, length-take-le}
use Rattle.std.proofs.lemmas.List.Elements.{All-from_get_or, All-map, Contains-get_or}
use Rattle.std.proofs.lemmas.Option.{slice_get-get_or}
use Rattle.lw_facts.proofs.Lists.{contains_map, contained_in_map}
use Rattle.lw_pool.specs.declared.id.ClassId.{ClassId}
use Rattle.lw_laws.specs.Drafts.{IsReduced}
use Rattle.lw_laws.specs.Graphs.{Graph as PlainGraph, Pair as PlainPair, AreRising, class_of, pair_count}
use Rattle.lw_graph.specs.declared.pair.Pair.{Pair}
use Rattle.lw_graph.specs.Graphs.{IsBelow, IsGraph, plain_graph, plain_pair, plain_row}
use Rattle.lw_reduce.specs.declared.facts.Fact.{Fact}
use Rattle.lw_reduce.specs.declared.facts.Link.{Link}
use Rattle.lw_reduce.specs.ClassNumbers.{AreClasses, as_class}
use Rattle.lw_reduce.specs.Drafting.{plain_draft}
use Rattle.lw_reduce.specs.Rows.{IsOrdered, IsRowOf}
use Rattle.lw_reduce.specs.Settling.{AreSettled, canonical_fact}
use Rattle.lw_reduce.specs.Buckets.{of_class, pair_of}
use Rattle.lw_reduce.proofs.ClassNumbers.{rep_of-double}
use Rattle.lw_reduce.proofs.Members.{filter_back}
use Rattle.lw_reduce.proofs.Reduced.{entry_form, entry_ordered, pairs_of, pairs_once, reduced, rows_below}
use Rattle.lw_pool.specs.Numbers.{numbers}

numbers_as_classes : (xs : List ℕ) → numbers (map as_class xs) ≡ xs
numbers_as_classes [] = refl
numbers_as_classes (x ∷ xs) = ap (λ ys. x ∷ ys) (numbers_as_classes xs)

plain_pairs : (rows : List Fact) → plain_row (map pair_of rows) ≡ pairs_of rows
plain_pairs [] = refl
plain_pairs (r ∷ rows) = ap (λ ps. record { x = r.left; y = r.right } ∷ ps) (plain_pairs rows)

module _ (n : ℕ) (nands : List Fact) (links : List Link) (reps : List ℕ) (is : AreSettled n nands links reps) (few : n < 2 ^ 31) (forms : List ℕ) (are : AreClasses reps forms) (count : length forms ≡ n) where
  pub entries_below : (m : ℕ) → m ≡ 2 * pair_count 0 forms → All (λ (r : Fact). r.form < m) (map (canonical_fact forms) nands)
  entries_below m e k d lt =
      let b = entry_form n nands links reps is few forms are count (get_or (map (canonical_fact forms) nands) k d) (Contains-get_or (map (canonical_fact forms) nands) k d lt) in
      omega arith

  module _ (inputs : ℕ) (inputs_in : inputs < n) (one : ClassId) (leaves classes : List ClassId) (lists : List (List Pair)) (pairs : ℕ) (one_is : one.0 ≡ slice_index forms 0) (leaves_are : leaves ≡ map as_class (slice_range forms 1 (inputs + 1))) (classes_are : classes ≡ map as_class forms) (pairs_is : pairs ≡ pair_count 0 forms) (lists_count : length lists ≡ pairs * 2) (lists_are : (c : ℕ) → IsRowOf (map pair_of (filter (of_class c) (map (canonical_fact forms) nands))) (slice_index_or lists c [])) where
    abbrev graph : PlainGraph
    graph = record { one = one.0; leaves = numbers leaves; forms = forms; pairs = map plain_row lists }

    graph_is : graph ≡ plain_graph one leaves classes lists
    graph_is =
        let e : forms ≡ numbers classes = sym (ap numbers classes_are ∙ numbers_as_classes forms) in
        λ i. record { one = one.0; leaves = numbers leaves; forms = e i; pairs = map plain_row lists }

    at : (c : ℕ) → slice_index_or (map plain_row lists) c [] ≡ plain_row (slice_index_or lists c [])
    at c = plain_lists.get_or-map plain_row lists c []

    abbrev own : ℕ → List Fact
    own c = filter (of_class c) (map (canonical_fact forms) nands)

    members : (c : ℕ) (p : PlainPair) → Contains (slice_index_or (map plain_row lists) c []) p ↔ Contains (pairs_of (own c)) p
    members c p = (to, from)
      where
        to : Contains (slice_index_or (map plain_row lists) c []) p → Contains (pairs_of (own c)) p
        to h =
            let (q, k, e) = contained_in_map plain_pair (slice_index_or lists c []) p (subst (λ row. Contains row p) (at c) h) in
            subst₂ (λ row z. Contains row z) (plain_pairs (own c)) e (contains_map plain_pair (map pair_of (own c)) q (((lists_are c).listed q).0 k))

        from : Contains (pairs_of (own c)) p → Contains (slice_index_or (map plain_row lists) c []) p
        from h =
            let (q, k, e) = contained_in_map plain_pair (map pair_of (own c)) p (subst (λ row. Contains row p) (sym (plain_pairs (own c))) h) in
            subst₂ (λ row z. Contains row z) (sym (at c)) e (contains_map plain_pair (slice_index_or lists c []) q (((lists_are c).listed q).1 k))

    rises : (c : ℕ) → AreRising (slice_index_or (map plain_row lists) c [])
    rises c =
        subst AreRising (sym (at c)) ((lists_are c).rising (All-map IsOrdered pair_of (own c) (λ k d lt. entry_ordered n nands links reps is few forms are count (get_or (own c) k d) (filter_back (of_class c) (map (canonical_fact forms) nands) (get_or (own c) k d) (Contains-get_or (own c) k d lt)).0)))

    row_count : length (map plain_row lists) ≡ 2 * pair_count 0 forms
    row_count = length-map lists plain_row ∙ (lists_count ∙ (omega arith))

    leaves_is : numbers leaves ≡ slice_range forms 1 (inputs + 1)
    leaves_is = ap numbers leaves_are ∙ numbers_as_classes (slice_range forms 1 (inputs + 1))

    leaf_count : length (numbers leaves) ≡ inputs
    leaf_count =
        let d = length-drop 1 forms in
        ap length leaves_is ∙ (length-take-le (inputs + 1 - 1) (drop 1 forms) (omega arith) ∙ (omega arith))

    leaf_at : (i : ℕ) → i < inputs → get_or (numbers leaves) i 0 ≡ slice_index forms (1 + i)
    leaf_at i lt =
        ap (λ ls. get_or ls i 0) leaves_is ∙ (get_or-take (inputs + 1 - 1) (drop 1 forms) i 0 (omega arith) ∙ get_or-drop 1 forms i 0)

    form_below : (k : ℕ) → k < n → slice_index forms k < 2 * pair_count 0 forms
    form_below k lt = let b = are.below k (omega arith) in omega arith

    pub is_graph : IsGraph (plain_graph one leaves classes lists)
    is_graph = subst IsGraph graph_is (record {
      even = let r = row_count in omega arith;
      few = let r = row_count in let f = are.few in omega arith;
      few_inputs = let l = leaf_count in omega arith;
      one = let r = row_count in let b = form_below 0 (omega arith) in omega arith;
      leaves = All-from_get_or (λ c. c < length (map plain_row lists)) (numbers leaves) 0 (λ i lt. let l = leaf_count in let r = row_count in let a = leaf_at i (omega arith) in let b = form_below (1 + i) (omega arith) in omega arith);
      forms = All-from_get_or (λ c. c < length (map plain_row lists)) forms 0 (λ i lt. let r = row_count in let b = form_below i (omega arith) in omega arith);
      pairs = All-from_get_or (λ row. All (IsBelow (length (map plain_row lists))) row) (map plain_row lists) [] (λ i lt. rows_below n nands links reps is few forms are count inputs (replicate n false) one.0 (numbers leaves) (map plain_row lists) (length-replicate n false) members rises row_count i);
      rising = rises;
      once = pairs_once n nands links reps is few forms are count inputs (replicate n false) one.0 (numbers leaves) (map plain_row lists) (length-replicate n false) members rises row_count;
    })

    pub is_reduced : (samples : List Bool) → length samples ≡ n → IsReduced (plain_draft inputs samples nands links) (plain_graph one leaves classes lists)
    is_reduced samples known =
        subst (IsReduced (plain_draft inputs samples nands links)) graph_is (reduced n nands links reps is few forms are count inputs samples one.0 (numbers leaves) (map plain_row lists) known members rises row_count leaf_count (one_is ∙ sym (rep_of-double forms 0)) leaf_class)
      where
        leaf_class : (i : ℕ) → i < inputs → slice_get (numbers leaves) i ≡ Some (class_of graph (2 * (i + 1)))
        leaf_class i lt =
            let c = leaf_count in
            let s : 1 + i ≡ i + 1 = omega arith in
            slice_get-get_or (numbers leaves) i 0 (omega arith) ∙ ap Some (leaf_at i lt ∙ (ap (slice_index forms) s ∙ sym (rep_of-double forms (i + 1))))
