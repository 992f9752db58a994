-- In the graph of a network's forms the least time of an input's class is the start of the input.
use Rattle.std.proofs.Common.{ℕ, zero, suc, ◌==◌, ◌<◌, ◌≤◌, ◌≡◌, inl, inr, Bool, true, false, List, [], ◌∷◌, length, map, min, Option, Some, None, slice_get, slice_index_or, refl, ap, sym, ◌∙◌, subst, arith}
use Rattle.std.proofs.lemmas.Bool.{eqb-true}
use Rattle.std.proofs.lemmas.Option.{slice_get_within}
use Rattle.lw_laws.specs.Modes.{Mode}
use Rattle.lw_laws.specs.Networks.{Network}
use Rattle.lw_laws.specs.Trees.{Tree, leaf, const_one, const_zero, inv, nand, tree_value, planted, HasLeaf}
use Rattle.lw_laws.specs.Forms.Form.{var_form}
use Rattle.lw_laws.specs.Listings.{Listing, listing_of, IsListed}
use Rattle.lw_laws.specs.SignalValues.{IsSoundListing}
use Rattle.lw_laws.specs.Graphs.{Graph, Unfolds}
use Rattle.lw_laws.specs.Classes.{class_in, IsGraphOf}
use Rattle.lw_laws.specs.Covers.{Timing, Pattern, ArePatterns, Cover, Covers, tree_of, trees_of, IsCover, AreCovers, latest, start_of, delays_of, time_of, times_of}
use Rattle.lw_laws.specs.Covers.Cover.{wire, gate}
use Rattle.lw_laws.specs.Covers.Covers.{no_covers, cover}
use Rattle.lw_laws.specs.Delays.{delay_cost}
use Rattle.lw_laws.specs.Matches.{IsLeastCover}
use Rattle.lw_laws.proofs.Facts.{eq_same}
use Rattle.lw_laws.proofs.PatternLaws.{has_leaf, leaf_is}
use Rattle.lw_laws.proofs.Netlists.{tree_value_same}
use Rattle.lw_laws.proofs.Delays.{cost_of-time, length-delays_of}
use Rattle.lw_laws.proofs.GraphEncodes.{forms_trees}
use Rattle.lw_laws.proofs.NumberValues.{trees_have_value}
use Rattle.lw_laws.proofs.Sound.{network_is_sound}
use Rattle.lw_laws.proofs.InputClasses.{form_input_at}

-- a tree that has the value of one leaf has that leaf
value_has_leaf : (i : ℕ) (t : Tree) → ((x : ℕ → Bool) → tree_value x t ≡ x i) → HasLeaf t i
value_has_leaf i t f = by_test (has_leaf i t) refl
  where
    by_test : (b : Bool) → has_leaf i t ≡ b → HasLeaf t i
    by_test true e = (leaf_is i t).0 e
    by_test false e =
        let same = tree_value_same (λ k. false) (λ k. k == i) t (λ k h. by_place k (k == i) refl h) in
        let one : false ≡ (i == i) = sym (f (λ k. false)) ∙ (same ∙ f (λ k. k == i)) in
        let two : (i == i) ≡ true = eq_same i in
        cc
      where
        by_place : (k : ℕ) (b : Bool) → (k == i) ≡ b → HasLeaf t k → false ≡ (k == i)
        by_place k false s h = sym s
        by_place k true s h =
            let there = (leaf_is i t).1 (subst (HasLeaf t) (eqb-true k i s) h) in
            cc

-- a leaf of a tree with trees planted is a leaf of the tree at a pin
planted_leaf : (i : ℕ) (p : Tree) (ts : List Tree) → ((k : ℕ) → HasLeaf p k → k < length ts) → HasLeaf (planted p ts) i → (k : ℕ) × (k < length ts) × HasLeaf (slice_index_or ts k (leaf k)) i
planted_leaf i (leaf k) ts low h = (k, low k refl, h)
planted_leaf i const_one ts low h = absurd h
planted_leaf i const_zero ts low h = absurd h
planted_leaf i (inv p) ts low h = planted_leaf i p ts low h
planted_leaf i (nand p q) ts low (inl h) = planted_leaf i p ts (λ k l. low k (inl l)) h
planted_leaf i (nand p q) ts low (inr h) = planted_leaf i q ts (λ k l. low k (inr l)) h

latest_over : (ds ts : List ℕ) (k s : ℕ) → length ds ≡ length ts → k < length ts → s ≤ slice_index_or ts k 0 → s ≤ latest ds ts
latest_over ds [] k s e lt le = absurd (omega arith)
latest_over [] (t ∷ ts) k s e lt le = absurd (omega arith)
latest_over (d ∷ ds) (t ∷ ts) zero s e lt le = omega arith
latest_over (d ∷ ds) (t ∷ ts) (suc k) s e lt le = let ih = latest_over ds ts k s (omega arith) (omega arith) le in omega arith

length-times_of : (timing : Timing) (ks : Covers) → length (times_of timing ks) ≡ length (trees_of ks)
length-times_of timing no_covers = refl
length-times_of timing (cover k ks) = ap suc (length-times_of timing ks)

module _ (timing : Timing) (pats : List Pattern) (patterns : ArePatterns (map length timing.delays) pats) (i : ℕ) where
  -- a cover of a tree with the leaf of an input arrives no earlier than the input starts
  mutual
    pub start_before : (k : Cover) → IsCover (map length timing.delays) pats k → HasLeaf (tree_of k) i → start_of timing.starts i ≤ time_of timing k
    start_before (wire j) is h = let same : start_of timing.starts j ≡ start_of timing.starts i = ap (start_of timing.starts) h in omega arith
    start_before (gate p ks) (listed, n, are) h =
        let (k, lt, at) = planted_leaf i p.tree (trees_of ks) (λ k l. ((patterns p listed).pins (length (trees_of ks)) k n).0 l) h in
        let long = length-times_of timing ks in
        let delays = length-delays_of timing.delays p.cell (length (trees_of ks)) n in
        latest_over (delays_of timing.delays p.cell) (times_of timing ks) k (start_of timing.starts i) (omega arith) (omega arith) (starts_before ks k (leaf k) are lt at)

    starts_before : (ks : Covers) (k : ℕ) (d : Tree) → AreCovers (map length timing.delays) pats ks → k < length (trees_of ks) → HasLeaf (slice_index_or (trees_of ks) k d) i → start_of timing.starts i ≤ slice_index_or (times_of timing ks) k 0
    starts_before no_covers k d are lt h = absurd (omega arith)
    starts_before (cover c ks) zero d (is, are) lt h = start_before c is h
    starts_before (cover c ks) (suc k) d (is, are) lt h = starts_before ks k d are (omega arith) h

module _ (mode : Mode) (inputs : ℕ) (o : Listing) (g : Graph) (sound : IsSoundListing inputs o) (graph_is : IsGraphOf mode inputs o g) where
  -- the trees of an input's class have the input's leaf
  pub form_input_leaf : (i c : ℕ) (t : Tree) → slice_get g.leaves i ≡ Some c → Unfolds g t c → HasLeaf t i
  form_input_leaf i c t at u =
      let is = sound.listing in
      let count = graph_is.written.leaf_count in
      let within = slice_get_within g.leaves i c at in
      let lt : i < inputs = omega arith in
      let leaves = graph_is.leaves i lt in
      let here : c ≡ class_in o g (var_form i) = cc in
      let occ : IsListed o (var_form i) = (suc i, form_input_at mode inputs o g sound graph_is i lt) in
      let tree = (forms_trees mode inputs o g sound graph_is (var_form i) t occ).0 (subst (λ d. Unfolds g t d) here u) in
      value_has_leaf i t (λ x. trees_have_value inputs o is x (sound.agree x) mode (var_form i) t occ tree)

  -- the least time of an input's class is the input's start, cut at the cap
  pub form_input_label : (pats : List Pattern) (timing : Timing) (cap : ℕ) → ArePatterns (map length timing.delays) pats → (i c : ℕ) (l : Option ℕ) → slice_get g.leaves i ≡ Some c → IsLeastCover g pats (delay_cost timing cap) c l → l ≡ Some ((delay_cost timing cap).leaf i)
  form_input_label pats timing cap patterns i c None at none = absurd (none (wire i) tt at)
  form_input_label pats timing cap patterns i c (Some d) at ((k, is, u, e), low) =
      let upper = low (wire i) tt at in
      let after = start_before timing pats patterns i k is (form_input_leaf i c (tree_of k) at u) in
      let cut = cost_of-time timing cap k in
      let same : d ≡ min cap (start_of timing.starts i) = omega arith in
      ap Some same

-- the same in the graph of a network's forms
module _ (mode : Mode) (width : ℕ) (net : Network) (g : Graph) (wide : 2 ≤ width) (graph_is : IsGraphOf mode net.inputs (listing_of width net) g) where
  pub input_leaf : (i c : ℕ) (t : Tree) → slice_get g.leaves i ≡ Some c → Unfolds g t c → HasLeaf t i
  input_leaf = form_input_leaf mode net.inputs (listing_of width net) g (network_is_sound width wide net) graph_is

  pub input_label : (pats : List Pattern) (timing : Timing) (cap : ℕ) → ArePatterns (map length timing.delays) pats → (i c : ℕ) (l : Option ℕ) → slice_get g.leaves i ≡ Some c → IsLeastCover g pats (delay_cost timing cap) c l → l ≡ Some ((delay_cost timing cap).leaf i)
  input_label = form_input_label mode net.inputs (listing_of width net) g (network_is_sound width wide net) graph_is
