-- The graph of a network's forms is what each graph is: its classes stand in pairs, and all that it names is one of them.
use Rattle.std.proofs.Common.{ℕ, ◌^◌, ◌/◌, ◌%◌, ◌==◌, ◌<◌, ◌≤◌, ◌≡◌, inl, if◌then◌else◌, List, [], length, All, Contains, slice_index, slice_index_or, refl, sym, subst, arith}
use Rattle.std.proofs.lemmas.List.{get_or_default}
use Rattle.std.proofs.lemmas.List.Elements.{Contains-get_or}
use Rattle.std.proofs.lemmas.Option.{get_or_from_slice_get}
use Rattle.lw_map.proofs.Ranges.{choice_low, listed_low, unfolds_low, numbered_low}
use Rattle.lw_laws.specs.Modes.{Mode}
use Rattle.lw_laws.specs.Trees.{leaf, const_one}
use Rattle.lw_laws.specs.Networks.{Network}
use Rattle.lw_laws.specs.Listings.{listing_of}
use Rattle.lw_laws.specs.Numbering.{number}
use Rattle.lw_laws.specs.Graphs.{Graph, Pair, class_of, pair_count}
use Rattle.lw_laws.specs.Classes.{IsGraphOf}
use Rattle.lw_laws.proofs.Lists.{slice_get_some}
use Rattle.lw_laws.proofs.GraphEncodes.{graph_pairs_once}
use Rattle.lw_graph.specs.Graphs.{IsBelow, IsGraph}

module _ (mode : Mode) (width : ℕ) (net : Network) (g : Graph) (wide : 2 ≤ width) (is : IsGraphOf mode net.inputs (listing_of width net) g) where
  one_low : g.one < length g.pairs
  one_low = unfolds_low mode width net g wide is const_one g.one refl

  -- the class of any form is one of the graph's
  form_low : (f : ℕ) → class_of g f < length g.pairs
  form_low f =
      let n = is.written.class_count in
      let base = listed_low g.forms (f / 2) (pair_count 0 g.forms) (omega (arith, n, one_low)) (λ c e. numbered_low 0 g.forms (f / 2) c is.written.numbered e) in
      let low = choice_low (f % 2 == 0) (slice_index g.forms (f / 2)) (pair_count 0 g.forms) base in
      omega (arith, n, low)

  leaves_low : All (λ c. c < length g.pairs) g.leaves
  leaves_low k d lt =
      let (c, e) = slice_get_some g.leaves k lt in
      subst (λ m. m < length g.pairs) (sym (get_or_from_slice_get g.leaves k c d e)) (unfolds_low mode width net g wide is (leaf k) c e)

  forms_low : All (λ c. c < length g.pairs) g.forms
  forms_low k d lt =
      let (c, e) = slice_get_some g.forms k lt in
      let low = numbered_low 0 g.forms k c is.written.numbered e in
      let n = is.written.class_count in
      subst (λ m. m < length g.pairs) (sym (get_or_from_slice_get g.forms k c d e)) (omega arith)

  pair_low : (c : ℕ) (row : List Pair) → row ≡ slice_index_or g.pairs c [] → All (IsBelow (length g.pairs)) row
  pair_low c row same k d lt =
      let p : Pair = slice_index_or row k d in
      let split = (is.pairs c p.x p.y).0 (inl (subst (λ (r : List Pair). Contains r p) same (Contains-get_or row k d lt))) in (
        subst (λ m. m < length g.pairs) split.left_at (form_low (number (listing_of width net).bases split.left)),
        subst (λ m. m < length g.pairs) split.right_at (form_low (number (listing_of width net).bases split.right)),
      )

  pub form_graph : net.inputs < 2 ^ 32 → length g.pairs < 2 ^ 32 → IsGraph g
  form_graph few_inputs few = record {
    even = let n = is.written.class_count in omega arith;
    few = few;
    few_inputs = let n = is.written.leaf_count in omega arith;
    one = one_low;
    leaves = leaves_low;
    forms = forms_low;
    pairs = λ c d lt. pair_low c (slice_index_or g.pairs c d) (get_or_default g.pairs c d [] lt);
    rising = is.written.rising;
    once = graph_pairs_once mode width net g wide is;
  }
