-- Least arrivals of small networks, by tests of a graph and labels, and a cover.
use Rattle.std.proofs.Common.{ℕ, zero, suc, ◌+◌, ◌<◌, ◌≤◌, ◌^◌, ◌≡◌, Bool, true, ◌&&◌, ltb, List, [], min, ap, inl, inr, ◌/◌, length, map, Option, Some, None, slice_get, sym, subst, arith, lit≤}
use Rattle.std.specs.List.{list_all}
use Rattle.std.proofs.lemmas.Bool.{and_parts, ltb-true}
use native.Mathlib.Decide.{ℕ_discrete}
use Rattle.lw_laws.specs.Modes.{Mode}
use Rattle.lw_laws.specs.Trees.{Tree, leaf, const_one, const_zero, inv, nand, HasLeaf}
use Rattle.lw_laws.specs.Networks.{Network}
use Rattle.lw_laws.specs.Graphs.{Graph}
use Rattle.lw_laws.specs.Signals.{sop_at, signals_of}
use Rattle.lw_laws.specs.Forms.{Form}
use Rattle.lw_laws.specs.Decompositions.{Occurs, HasTree}
use Rattle.lw_laws.specs.Listings.{listing_of, IsListed}
use Rattle.lw_laws.specs.Covers.{Timing, start_of, Pattern, ArePatterns, Cover, IsCover, tree_of, time_of}
use Rattle.lw_laws.specs.Choices.{AreHeights}
use Rattle.lw_laws.specs.Matches.{choices_of, IsLeastCover}
use Rattle.lw_laws.specs.Rounds.{labels_in}
use Rattle.lw_laws.specs.NumberedForms.{family_of}
use Rattle.lw_laws.specs.Delays.{delay_cost}
use Rattle.lw_laws.specs.Mapped.{forms_of, root_class, IsLabelledOver}
use Rattle.lw_laws.specs.Headline.{HasLeastArrival}
use Rattle.lw_laws.proofs.Listed.{occurring_is_listing}
use Rattle.lw_laws.proofs.Occurrences.{listed_occurs}
use Rattle.lw_laws.proofs.Agreement.{numbered_are_forms}
use Rattle.lw_laws.proofs.NumberedForms.{forms_are_family}
use Rattle.lw_laws.proofs.Encoding.{pairs_in_one_class}
use Rattle.lw_laws.proofs.Headline.{has_plain_trees}
use Rattle.lw_laws.proofs.Together.{bounds_covers, least_covers}
use Rattle.lw_laws.proofs.LabelLaws.{along_heights}
use Rattle.lw_laws.proofs.Delays.{delay_cost_is, cost_of-time}
use Rattle.lw_laws.proofs.Mapping.{sop_occurs}
use Rattle.lw_laws.proofs.PatternLaws.{has_leaf, leaf_is}
use Rattle.lw_laws.proofs.Facts.{all_true}
use Rattle.lw_laws.proofs.EncodingTests.{Two, PassesTests, tests_encode}
use Rattle.lw_laws.proofs.PotentialTests.{PassesLabelTests, tests_bound}

-- a tree has the leaves below n, and no other leaf
abbrev leaves_below : ℕ → Tree → Bool
leaves_below n (leaf k) = ltb k n
leaves_below n const_one = true
leaves_below n const_zero = true
leaves_below n (inv t) = leaves_below n t
leaves_below n (nand t u) = leaves_below n t && leaves_below n u

abbrev has_leaves : ℕ → Tree → Bool
has_leaves zero t = true
has_leaves (suc n) t = has_leaf n t && has_leaves n t

below_true : (n : ℕ) (t : Tree) (k : ℕ) → leaves_below n t ≡ true → HasLeaf t k → k < n
below_true n (leaf i) k e h = let lt = ltb-true i n e in omega arith
below_true n const_one k e h = absurd h
below_true n const_zero k e h = absurd h
below_true n (inv t) k e h = below_true n t k e h
below_true n (nand t u) k e (inl h) = below_true n t k (and_parts (leaves_below n t) (leaves_below n u) e).0 h
below_true n (nand t u) k e (inr h) = below_true n u k (and_parts (leaves_below n t) (leaves_below n u) e).1 h

has_true : (n : ℕ) (t : Tree) (k : ℕ) → has_leaves n t ≡ true → k < n → HasLeaf t k
has_true zero t k e lt = absurd (omega arith)
has_true (suc n) t k e lt = by_place (ℕ_discrete k n) (and_parts (has_leaf n t) (has_leaves n t) e) (λ r l. has_true n t k r l)
  where
    by_place : Dec (k ≡ n) → (has_leaf n t ≡ true) × (has_leaves n t ≡ true) → (has_leaves n t ≡ true → k < n → HasLeaf t k) → HasLeaf t k
    by_place (yes s) p ih = subst (HasLeaf t) (sym s) ((leaf_is n t).0 p.0)
    by_place (no out) p ih = ih p.1 (omega arith)

abbrev fits_pins : Tree → Option ℕ → Bool
fits_pins t None = true
fits_pins t (Some n) = leaves_below n t && has_leaves n t

abbrev pub patterns_fit : List ℕ → List Pattern → Bool
patterns_fit pin_counts pats = list_all (λ p. fits_pins p.tree (slice_get pin_counts p.cell)) pats

pub fitting_patterns : (pin_counts : List ℕ) (pats : List Pattern) → patterns_fit pin_counts pats ≡ true → ArePatterns pin_counts pats
fitting_patterns pin_counts pats e p listed = record {
  pins = λ n k has.
      let here = subst (λ o. fits_pins p.tree o ≡ true) has (all_true (λ q. fits_pins q.tree (slice_get pin_counts q.cell)) pats p e listed) in
      let (a, b) = and_parts (leaves_below n p.tree) (has_leaves n p.tree) here in
      (λ h. below_true n p.tree k a h, λ lt. has_true n p.tree k b lt);
}

-- a form that a network's list has at this place occurs
pub occurs_at : (net : Network) (f : Form) → IsListed (listing_of 6 net) f → Occurs (signals_of 6 net) f
occurs_at net f at = listed_occurs (listing_of 6 net) (occurring_is_listing 6 (lit≤ tt) net) f at

-- The label of a net's root class is the least arrival, where some cover has it as its time.
pub labelled_least : (mode : Mode) (width : ℕ) (net : Network) (g : Graph) (pats : List Pattern) (timing : Timing) (cap : ℕ) (labels : List (Option ℕ)) → IsLabelledOver mode width net g pats timing cap labels → (s d : ℕ) → s < net.inputs + length net.nodes → labels_in labels (root_class width net g s) ≡ Some d → (k : Cover) → IsCover (map length timing.delays) pats k → HasTree mode width (signals_of width net) (sop_at (signals_of width net) s) (tree_of k) → time_of timing k ≡ d → HasLeastArrival mode width net pats timing s d
labelled_least mode width net g pats timing cap labels over s d lt label k cover tree time = record {
  attained = (k, cover, tree, time);
  least = λ j is_cover has.
      let o = listing_of width net in
      let is = occurring_is_listing width over.wide net in
      let f = sop_at (signals_of width net) s in
      let occ = sop_occurs width over.wide net s lt in
      let u = (has_plain_trees mode net.inputs o g is over.over.encodes f (tree_of j) occ).1 has in
      let once = pairs_in_one_class (family_of mode (forms_of width net)) (λ h. h / 2) (forms_are_family mode (forms_of width net) (numbered_are_forms net.inputs o is)) g over.over.encodes in
      let (l, e, le) = bounds_covers g pats (delay_cost timing cap) labels over.over.few once over.over.patterns (delay_cost_is timing cap) over.over.potential j (root_class width net g s) is_cover u in
      let t = cost_of-time timing cap j in
      let same : l ≡ d = cc in
      omega arith;
}

-- A graph and labels that pass the tests.
pub tested : (mode : Mode) (width : ℕ) → 2 ≤ width → (net : Network) (g : Graph) (merged : List Two) → PassesTests mode (forms_of width net) g merged → (pats : List Pattern) (timing : Timing) (cap : ℕ) (labels : List (Option ℕ)) → PassesLabelTests labels g pats (delay_cost timing cap) → patterns_fit (map length timing.delays) pats ≡ true → length g.leaves < 2 ^ 32 → IsLabelledOver mode width net g pats timing cap labels
tested mode width wide net g merged passes pats timing cap labels bounded fits few = record {
  wide = wide;
  over = record {
    encodes = tests_encode mode (forms_of width net) g merged passes;
    few = few;
    patterns = fitting_patterns (map length timing.delays) pats fits;
    potential = tests_bound labels g pats (delay_cost timing cap) bounded;
  };
}

-- Labels of times that are a potential, with heights of the classes, are the least times of covers.
pub labels_least : (mode : Mode) (width : ℕ) (net : Network) (g : Graph) (pats : List Pattern) (timing : Timing) (cap : ℕ) (labels : List (Option ℕ)) (heights : ℕ → ℕ) → timing.starts ≡ [] → IsLabelledOver mode width net g pats timing cap labels → AreHeights (choices_of g (map length timing.delays) pats) (delay_cost timing cap) (labels_in labels) heights → (c : ℕ) → IsLeastCover g pats (delay_cost timing cap) c (labels_in labels c)
labels_least mode width net g pats timing cap labels heights at_once over are c =
    let listing = occurring_is_listing width over.wide net in
    let once = pairs_in_one_class (family_of mode (forms_of width net)) (λ h. h / 2) (forms_are_family mode (forms_of width net) (numbered_are_forms net.inputs (listing_of width net) listing)) g over.over.encodes in
    least_covers g pats (delay_cost timing cap) labels over.over.few once over.over.patterns (delay_cost_is timing cap) over.over.potential (along_heights g pats (delay_cost timing cap) labels heights are leaf) c
  where
    leaf : (d i l : ℕ) → slice_get g.leaves i ≡ Some d → labels_in labels d ≡ Some l → l ≡ min cap (start_of timing.starts i)
    leaf d i l at e =
        let (m, f, le) = over.over.potential.inputs d i at in
        let same : m ≡ l = cc in
        let zero_start : start_of timing.starts i ≡ 0 = ap (λ starts. start_of starts i) at_once in
        omega arith
