-- The classes of the graph of a network's forms are in range, and the least times of classes are below what the largest delay allows.
use Rattle.std.proofs.Common.{ℕ, zero, suc, ◌+◌, ◌*◌, ◌^◌, ◌/◌, ◌%◌, ◌==◌, ◌<◌, ◌≤◌, ◌≡◌, inl, inr, Bool, true, false, if◌then◌else◌, List, [], ◌∷◌, length, map, Option, Some, None, slice_get, slice_index, slice_index_or, refl, sym, ◌∙◌, subst, arith, eq-eqb, eqb-true, mul-le-mul_right}
use Rattle.std.proofs.lemmas.Option.{slice_get_within}
use Rattle.lw_laws.specs.Flip.{flip}
use Rattle.lw_laws.specs.Modes.{Mode}
use Rattle.lw_laws.specs.Trees.{Tree, leaf, const_one, const_zero, inv, nand}
use Rattle.lw_laws.specs.Graphs.{Graph, Pair, HoldsPair, Unfolds, class_of, AreNumberedFrom, pair_count, IsWritten}
use Rattle.lw_laws.specs.Networks.{Network}
use Rattle.lw_laws.specs.Forms.Form.{var_form, true_form}
use Rattle.lw_laws.specs.Occurring.{occurring_forms}
use Rattle.lw_laws.specs.Listings.{listing_of}
use Rattle.lw_laws.specs.Numbering.{number}
use Rattle.lw_laws.specs.Classes.{class_in, IsGraphOf}
use Rattle.lw_laws.proofs.Flips.{half-flip}
use Rattle.lw_laws.specs.Covers.{Timing, Pattern, ArePatterns, tree_of}
use Rattle.lw_laws.specs.Matches.{IsLeastCover}
use Rattle.lw_laws.specs.Rounds.{labels_in}
use Rattle.lw_laws.specs.Delays.{delay_cost}
use Rattle.lw_laws.specs.Laws.{IsCoverProblem, IsTimingUpTo}
use Rattle.lw_laws.proofs.Listed.{true_and_inputs_first}
use Rattle.lw_laws.proofs.GraphEncodes.{graph_pairs_once}
use Rattle.lw_laws.proofs.NetlistOf.{least_costs_bound}
use Rattle.lw_laws.proofs.LabelLaws.{labels_stay_low}
use Rattle.lw_laws.proofs.Delays.{delay_cost_is}

-- how many pairs of classes there are
pairs_rise : (next : ℕ) (cs : List ℕ) → next ≤ pair_count next cs
pairs_rise next [] = omega arith
pairs_rise next (c ∷ cs) = by_test (c == 2 * next) (λ k. pairs_rise k cs) where
  by_test : (t : Bool) → ((k : ℕ) → k ≤ pair_count k cs) → next ≤ pair_count (if t then suc next else next) cs
  by_test true rest = let p = rest (suc next) in omega arith
  by_test false rest = rest next

-- each class in the list is one of the pairs
pub numbered_low : (next : ℕ) (cs : List ℕ) (i c : ℕ) → AreNumberedFrom next cs → slice_get cs i ≡ Some c → c / 2 < pair_count next cs
numbered_low next [] i c are e = cc
numbered_low next (d ∷ cs) i c (inl (first, are)) e = by_test (d == 2 * next) (λ k. pairs_rise k cs) (eq-eqb d (2 * next) first) (λ j f. numbered_low (suc next) cs j c are f) i e
  where
    by_test : (t : Bool) → ((k : ℕ) → k ≤ pair_count k cs) → t ≡ true → ((j : ℕ) → slice_get cs j ≡ Some c → c / 2 < pair_count (suc next) cs) → (i : ℕ) → slice_get (d ∷ cs) i ≡ Some c → c / 2 < pair_count (if t then suc next else next) cs
    by_test false rises is rest i e = cc
    by_test true rises is rest zero e = let r = rises (suc next) in let same : d ≡ c = cc in omega arith
    by_test true rises is rest (suc i) e = rest i e
numbered_low next (d ∷ cs) i c (inr (low, are)) e = by_test (d == 2 * next) refl (λ k. pairs_rise k cs) (λ j f. numbered_low next cs j c are f) i e
  where
    by_test : (t : Bool) → (d == 2 * next) ≡ t → ((k : ℕ) → k ≤ pair_count k cs) → ((j : ℕ) → slice_get cs j ≡ Some c → c / 2 < pair_count next cs) → (i : ℕ) → slice_get (d ∷ cs) i ≡ Some c → c / 2 < pair_count (if t then suc next else next) cs
    by_test true is rises rest i e = let same = eqb-true d (2 * next) is in absurd (omega arith)
    by_test false is rises rest zero e = let r = rises next in let same : d ≡ c = cc in omega arith
    by_test false is rises rest (suc i) e = rest i e

pub choice_low : (t : Bool) (c m : ℕ) → c / 2 < m → (if t then c else flip c) / 2 < m
choice_low true c m lt = lt
choice_low false c m lt = let h = half-flip c in omega arith

-- what is listed is low, and so is what stands for the places past the list
pub listed_low : (cs : List ℕ) (b m : ℕ) → 0 < m → ((c : ℕ) → slice_get cs b ≡ Some c → c / 2 < m) → slice_index cs b / 2 < m
listed_low [] b m pos low = omega arith
listed_low (c ∷ cs) zero m pos low = low c refl
listed_low (c ∷ cs) (suc b) m pos low = listed_low cs b m pos low

-- a row that holds something is one of the rows
row_low : (rows : List (List Pair)) (c k : ℕ) → k < length (slice_index_or rows c []) → c < length rows
row_low [] c k lt = absurd (omega arith)
row_low (row ∷ rows) zero k lt = omega arith
row_low (row ∷ rows) (suc c) k lt = let ih = row_low rows c k lt in omega arith

module _ (g : Graph) (bases inputs : ℕ) (written : IsWritten bases inputs g) (some : 0 < bases) where
  some_pairs : 0 < pair_count 0 g.forms
  some_pairs = by_list g.forms written.form_count written.numbered
    where
      by_list : (cs : List ℕ) → length cs ≡ bases → AreNumberedFrom 0 cs → 0 < pair_count 0 cs
      by_list [] e are = absurd (omega arith)
      by_list (c ∷ cs) e are = let low = numbered_low 0 (c ∷ cs) 0 c are refl in omega arith

  base_low : (b : ℕ) → slice_index g.forms b / 2 < pair_count 0 g.forms
  base_low b = listed_low g.forms b (pair_count 0 g.forms) some_pairs (λ c e. numbered_low 0 g.forms b c written.numbered e)

  -- the class of any form is one of the pairs
  form_low : (f : ℕ) → class_of g f / 2 < pair_count 0 g.forms
  form_low f = choice_low (f % 2 == 0) (slice_index g.forms (f / 2)) (pair_count 0 g.forms) (base_low (f / 2))

  module _ (leaves_low : (i c : ℕ) → slice_get g.leaves i ≡ Some c → c / 2 < pair_count 0 g.forms) (one_low : g.one / 2 < pair_count 0 g.forms) where
    held_low : (c x y : ℕ) → HoldsPair g c x y → c < length g.pairs
    held_low c x y (inl (k, lt, e)) = row_low g.pairs c k lt
    held_low c x y (inr (k, lt, e)) = row_low g.pairs c k lt

    stands_low : (t : Tree) (c : ℕ) → Unfolds g t c → c / 2 < pair_count 0 g.forms
    stands_low (leaf k) c e = leaves_low k c e
    stands_low const_one c e = subst (λ d. d / 2 < pair_count 0 g.forms) (sym e) one_low
    stands_low const_zero c e = subst (λ d. d / 2 < pair_count 0 g.forms) (sym e) (let h = half-flip g.one in omega arith)
    stands_low (inv t) c u = let low = stands_low t (flip c) u in let h = half-flip c in omega arith
    stands_low (nand t v) c (x, y, h, a, b) = let low = held_low c x y h in let n = written.class_count in omega arith

-- a list of labels without those past a place
front : ℕ → List (Option ℕ) → List (Option ℕ)
front zero labels = []
front (suc n) [] = []
front (suc n) (o ∷ labels) = o ∷ front n labels

front_length : (n : ℕ) (labels : List (Option ℕ)) → length (front n labels) ≤ n
unfolding front
front_length zero labels = omega arith
front_length (suc n) [] = omega arith
front_length (suc n) (o ∷ labels) = let ih = front_length n labels in omega arith

front_same : (n : ℕ) (labels : List (Option ℕ)) (c : ℕ) → ((l : ℕ) → labels_in labels c ≡ Some l → c < n) → labels_in (front n labels) c ≡ labels_in labels c
unfolding front
front_same zero labels c low = by_label (labels_in labels c) low
  where
    by_label : (o : Option ℕ) → ((l : ℕ) → o ≡ Some l → c < 0) → ◌≡◌ {A = Option ℕ} None o
    by_label None low = refl
    by_label (Some l) low = let lt = low l refl in absurd (omega arith)
front_same (suc n) [] c low = refl
front_same (suc n) (o ∷ labels) zero low = refl
front_same (suc n) (o ∷ labels) (suc c) low = front_same n labels c (λ l e. let lt = low l e in omega arith)

module _ (mode : Mode) (width : ℕ) (net : Network) (g : Graph) (wide : 2 ≤ width) (is : IsGraphOf mode net.inputs (listing_of width net) g) where
  some_base : 0 < length (occurring_forms width net)
  some_base = slice_get_within (occurring_forms width net) 0 true_form (true_and_inputs_first width wide net).first

  leaf_low : (i c : ℕ) → slice_get g.leaves i ≡ Some c → c / 2 < pair_count 0 g.forms
  leaf_low i c e =
      let lt = slice_get_within g.leaves i c e in
      let n = is.written.leaf_count in
      let f = is.leaves i (omega arith) in
      let same : class_in (listing_of width net) g (var_form i) ≡ c = cc in
      subst (λ d. d / 2 < pair_count 0 g.forms) same (form_low g (length (occurring_forms width net)) net.inputs is.written some_base (number (occurring_forms width net) (var_form i)))

  one_low : g.one / 2 < pair_count 0 g.forms
  one_low = subst (λ d. d / 2 < pair_count 0 g.forms) (sym is.one) (form_low g (length (occurring_forms width net)) net.inputs is.written some_base (number (occurring_forms width net) true_form))

  -- a tree unfolds at a class of the graph
  pub unfolds_low : (t : Tree) (c : ℕ) → Unfolds g t c → c < length g.pairs
  unfolds_low t c u =
      let low = stands_low g (length (occurring_forms width net)) net.inputs is.written some_base leaf_low one_low t c u in
      let n = is.written.class_count in
      omega arith

  module _ (pats : List Pattern) (timing : Timing) (cap delay : ℕ) (few : net.inputs < 2 ^ 32) (patterns : ArePatterns (map length timing.delays) pats) (up : IsTimingUpTo delay timing) (pos : 0 < delay) (labels : List (Option ℕ)) (least : (c : ℕ) → IsLeastCover g pats (delay_cost timing cap) c (labels_in labels c)) where
    label_in_range : (c l : ℕ) (o : Option ℕ) → IsLeastCover g pats (delay_cost timing cap) c o → o ≡ Some l → c < length g.pairs
    label_in_range c l None a e = cc
    label_in_range c l (Some d) ((k, k_is, u, cost), low) e = unfolds_low (tree_of k) c u

    -- the least times of classes are below what the largest delay allows
    pub label_below : (c l : ℕ) → labels_in labels c ≡ Some l → l < (length g.pairs + 1) * delay
    label_below c l e =
        let same : (d : ℕ) → labels_in (front (length g.pairs) labels) d ≡ labels_in labels d = λ d. front_same (length g.pairs) labels d (λ m f. label_in_range d m (labels_in labels d) (least d) f) in
        let problem : IsCoverProblem g pats (delay_cost timing cap) = record {
          few = let n = is.written.leaf_count in omega arith;
          once = graph_pairs_once mode width net g wide is;
          patterns = patterns;
          cost_is = delay_cost_is timing cap;
        } in
        let (potential, attained) = least_costs_bound g pats (delay_cost timing cap) (front (length g.pairs) labels) problem (λ d. subst (IsLeastCover g pats (delay_cost timing cap) d) (sym (same d)) (least d)) in
        let low = labels_stay_low g pats timing cap (front (length g.pairs) labels) delay problem potential attained up pos c l (same c ∙ e) in
        let n = front_length (length g.pairs) labels in
        let next : length (front (length g.pairs) labels) + 1 ≤ length g.pairs + 1 = omega arith in
        let more = mul-le-mul_right {m = length (front (length g.pairs) labels) + 1} {n = length g.pairs + 1} delay next in
        omega arith
