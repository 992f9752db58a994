-- A network that a union holds: its forms and trees are there with other inputs.
use Rattle.std.proofs.Common.{ℕ, zero, suc, ◌<◌, ◌≡◌, inl, inr, Contains, List, [], ◌∷◌, length, map, slice_index_or, refl, ap, ap₂, sym, ◌∙◌, subst, arith}
use Rattle.std.proofs.lemmas.List.{length-map}
use Rattle.lw_facts.proofs.Lists.{at_contained, contained_at, contains_map}
use Rattle.lw_laws.specs.Modes.{Mode}
use Rattle.lw_laws.specs.Trees.{Tree, leaf, const_one, const_zero, inv, nand, planted, HasLeaf}
use Rattle.lw_laws.specs.Forms.{Form, items, same_form}
use Rattle.lw_laws.specs.Signals.{Signal}
use Rattle.lw_laws.specs.Covers.{ArePatterns, Cover, Covers, IsCover, AreCovers, Pattern, Timing, HasPins, delays_of, latest, start_of, time_of, times_of, tree_of, trees_of}
use Rattle.lw_laws.specs.Covers.Cover.{wire, gate}
use Rattle.lw_laws.specs.Covers.Covers.{no_covers, cover}
use Rattle.lw_laws.specs.Decompositions.{AreOfOneSignal, AreOverlapping, AreParts, HasTree, IsPairOf, Occurs}
use Rattle.lw_laws.specs.Decompositions.AreParts.{parts_none, parts_left, parts_right}
use Rattle.lw_laws.specs.Decompositions.AreOverlapping.{over_none, over_left, over_right, over_both}
use Rattle.lw_laws.specs.Decompositions.Occurs.{true_occurs, sop_occurs, fac_occurs, operand_occurs, part_occurs, complement_occurs}
use Rattle.lw_laws.specs.Decompositions.HasTree.{input_law, true_law, false_law, inverter_law, split_law, sharing_law, factoring_law, overlap_law, tied_inverter_law}
use Rattle.lw_laws.proofs.Equality.{same_form_eq, same_form_refl}
use Rattle.lw_joined.proofs.Renamed.{complement_renamed, conjunction_renamed, and_renamed, items_renamed, renamed, same_renamed}

abbrev pub relabelled : (ℕ → ℕ) → Tree → Tree
relabelled ρ (leaf i) = leaf (ρ i)
relabelled ρ const_one = const_one
relabelled ρ const_zero = const_zero
relabelled ρ (inv t) = inv (relabelled ρ t)
relabelled ρ (nand t u) = nand (relabelled ρ t) (relabelled ρ u)

-- covers with their wires renamed
abbrev mutual
  pub rewired : (ℕ → ℕ) → Cover → Cover
  rewired ρ (wire i) = wire (ρ i)
  rewired ρ (gate p ks) = gate p (rewired_all ρ ks)

  pub rewired_all : (ℕ → ℕ) → Covers → Covers
  rewired_all ρ no_covers = no_covers
  rewired_all ρ (cover k ks) = cover (rewired ρ k) (rewired_all ρ ks)

-- the trees of the covers
planted_relabelled : (ρ : ℕ → ℕ) (p : Tree) (ts : List Tree) → ((k : ℕ) → HasLeaf p k → k < length ts) → planted p (map (relabelled ρ) ts) ≡ relabelled ρ (planted p ts)
planted_relabelled ρ (leaf k) ts low = by k k ts (low k refl)
  where
    by : (d k : ℕ) (ts : List Tree) → k < length ts → slice_index_or (map (relabelled ρ) ts) k (leaf d) ≡ relabelled ρ (slice_index_or ts k (leaf d))
    by d k [] lt = absurd (omega arith)
    by d zero (t ∷ ts) lt = refl
    by d (suc k) (t ∷ ts) lt = by d k ts (omega arith)
planted_relabelled ρ const_one ts low = refl
planted_relabelled ρ const_zero ts low = refl
planted_relabelled ρ (inv p) ts low = ap inv (planted_relabelled ρ p ts low)
planted_relabelled ρ (nand p q) ts low = ap₂ nand (planted_relabelled ρ p ts (λ k l. low k (inl l))) (planted_relabelled ρ q ts (λ k l. low k (inr l)))

module _ (ρ : ℕ → ℕ) (pin_counts : List ℕ) (pats : List Pattern) (patterns : ArePatterns pin_counts pats) where
  mutual
    pub rewired_tree : (k : Cover) → IsCover pin_counts pats k → tree_of (rewired ρ k) ≡ relabelled ρ (tree_of k)
    rewired_tree (wire i) is = refl
    rewired_tree (gate p ks) (listed, n, are) =
        ap (planted p.tree) (rewired_trees ks are) ∙ planted_relabelled ρ p.tree (trees_of ks) (λ k l. ((patterns p listed).pins (length (trees_of ks)) k n).0 l)

    rewired_trees : (ks : Covers) → AreCovers pin_counts pats ks → trees_of (rewired_all ρ ks) ≡ map (relabelled ρ) (trees_of ks)
    rewired_trees no_covers are = refl
    rewired_trees (cover k ks) (is, are) = ap₂ (λ (t : Tree) (ts : List Tree). t ∷ ts) (rewired_tree k is) (rewired_trees ks are)

  mutual
    pub rewired_cover : (k : Cover) → IsCover pin_counts pats k → IsCover pin_counts pats (rewired ρ k)
    rewired_cover (wire i) is = tt
    rewired_cover (gate p ks) (listed, n, are) =
        (listed, subst (HasPins pin_counts p.cell) (sym (ap length (rewired_trees ks are) ∙ length-map (trees_of ks) (relabelled ρ))) n, rewired_covers ks are)

    rewired_covers : (ks : Covers) → AreCovers pin_counts pats ks → AreCovers pin_counts pats (rewired_all ρ ks)
    rewired_covers no_covers are = tt
    rewired_covers (cover k ks) (is, are) = (rewired_cover k is, rewired_covers ks are)

module _ (ρ : ℕ → ℕ) (timing own : Timing) (same : own.delays ≡ timing.delays) (starts : (i : ℕ) → start_of timing.starts (ρ i) ≡ start_of own.starts i) where
  mutual
    pub rewired_time : (k : Cover) → time_of timing (rewired ρ k) ≡ time_of own k
    rewired_time (wire i) = starts i
    rewired_time (gate p ks) = ap₂ (λ (ds : List (List ℕ)) (ts : List ℕ). latest (delays_of ds p.cell) ts) (sym same) (rewired_times ks)

    rewired_times : (ks : Covers) → times_of timing (rewired_all ρ ks) ≡ times_of own ks
    rewired_times no_covers = refl
    rewired_times (cover k ks) = ap₂ (λ (t : ℕ) (ts : List ℕ). t ∷ ts) (rewired_time k) (rewired_times ks)

-- Trees of renamed forms.
module _ (ρ : ℕ → ℕ) (one : (i j : ℕ) → ρ i ≡ ρ j → i ≡ j) where
  renamed_one : (f h : Form) → renamed ρ f ≡ renamed ρ h → f ≡ h
  renamed_one f h e = same_form_eq f h (sym (same_renamed ρ one f h) ∙ (ap (λ x. same_form x (renamed ρ h)) e ∙ same_form_refl (renamed ρ h)))

  lists_one : (fs hs : List Form) → map (renamed ρ) fs ≡ map (renamed ρ) hs → fs ≡ hs
  lists_one [] [] e = refl
  lists_one [] (h ∷ hs) e = cc
  lists_one (f ∷ fs) [] e = cc
  lists_one (f ∷ fs) (h ∷ hs) e =
      let head : renamed ρ f ≡ renamed ρ h = cc in
      let tail : map (renamed ρ) fs ≡ map (renamed ρ) hs = cc in
      ap₂ (λ (x : Form) (xs : List Form). x ∷ xs) (renamed_one f h head) (lists_one fs hs tail)

  parts_renamed : {fs ls rs : List Form} → AreParts fs ls rs → AreParts (map (renamed ρ) fs) (map (renamed ρ) ls) (map (renamed ρ) rs)
  parts_renamed parts_none = parts_none
  parts_renamed (parts_left p) = parts_left (parts_renamed p)
  parts_renamed (parts_right p) = parts_right (parts_renamed p)

  overlap_renamed : {fs ls rs : List Form} → AreOverlapping fs ls rs → AreOverlapping (map (renamed ρ) fs) (map (renamed ρ) ls) (map (renamed ρ) rs)
  overlap_renamed over_none = over_none
  overlap_renamed (over_left p) = over_left (overlap_renamed p)
  overlap_renamed (over_right p) = over_right (overlap_renamed p)
  overlap_renamed (over_both p) = over_both (overlap_renamed p)

  pair_renamed : (f h p q : Form) → IsPairOf f h p q → IsPairOf (renamed ρ f) (renamed ρ h) (renamed ρ p) (renamed ρ q)
  pair_renamed f h p q (inl (inl (a, b))) = inl (inl (ap (renamed ρ) a, ap (renamed ρ) b))
  pair_renamed f h p q (inl (inr (a, b))) = inl (inr (ap (renamed ρ) a, ap (renamed ρ) b))
  pair_renamed f h p q (inr (inl (a, b))) = inr (inl (ap (renamed ρ) a ∙ sym (complement_renamed ρ p), ap (renamed ρ) b ∙ sym (complement_renamed ρ q)))
  pair_renamed f h p q (inr (inr (a, b))) = inr (inr (ap (renamed ρ) a ∙ sym (complement_renamed ρ q), ap (renamed ρ) b ∙ sym (complement_renamed ρ p)))

  abbrev pub signal_renamed : Signal → Signal
  signal_renamed x = record { sop = renamed ρ x.sop; fac = renamed ρ x.fac }

  module _ (mode : Mode) (width : ℕ) (signals others : List Signal) (there : (x : Signal) → Contains signals x → Contains others (signal_renamed x)) where
    occurs_renamed : {f : Form} → Occurs signals f → Occurs others (renamed ρ f)
    occurs_renamed true_occurs = true_occurs
    occurs_renamed (sop_occurs {x = x} c) = sop_occurs (there x c)
    occurs_renamed (fac_occurs {x = x} c) = fac_occurs (there x c)
    occurs_renamed (operand_occurs {fs = fs} {f = f} occ c) =
        operand_occurs (occurs_renamed occ) (subst (λ (xs : List Form). Contains xs (renamed ρ f)) (sym (items_renamed ρ fs)) (contains_map (renamed ρ) (items fs) f c))
    occurs_renamed (part_occurs {fs = fs} {ls = ls} {rs = rs} occ parts two) =
        let long : length (map (renamed ρ) ls) ≡ length ls = length-map ls (renamed ρ) in
        subst (Occurs others) (and_renamed ρ ls)
        (part_occurs (occurs_renamed occ) (subst (λ (xs : List Form). AreParts xs (map (renamed ρ) ls) (map (renamed ρ) rs)) (sym (items_renamed ρ fs)) (parts_renamed parts)) (omega arith))
    occurs_renamed (complement_occurs {f = f} occ) = subst (Occurs others) (complement_renamed ρ f) (complement_occurs (occurs_renamed occ))

    one_signal : (f h : Form) → AreOfOneSignal signals f h → AreOfOneSignal others (renamed ρ f) (renamed ρ h)
    one_signal f h (s, x, at, pair) = let (k, e) = contained_at others (signal_renamed x) (there x (at_contained signals s x at)) in (k, signal_renamed x, e, pair_renamed f h x.sop x.fac pair)

    abbrev Has : Form → Tree → Type 0
    Has f t = HasTree mode width others f t

    pub trees_renamed : {f : Form} {t : Tree} → HasTree mode width signals f t → Has (renamed ρ f) (relabelled ρ t)
    trees_renamed input_law = input_law
    trees_renamed true_law = true_law
    trees_renamed false_law = false_law
    trees_renamed (inverter_law {f = f} {t = t} occ tree) =
        inverter_law (occurs_renamed occ) (subst (λ (h : Form). Has h (relabelled ρ t)) (sym (complement_renamed ρ f)) (trees_renamed tree))
    trees_renamed (split_law {fs = fs} {ls = ls} {rs = rs} {t = t} {u = u} occ parts some many left right) =
        let long : length (map (renamed ρ) ls) ≡ length ls = length-map ls (renamed ρ) in
        let also : length (map (renamed ρ) rs) ≡ length rs = length-map rs (renamed ρ) in
        split_law (occurs_renamed occ) (subst (λ (xs : List Form). AreParts xs (map (renamed ρ) ls) (map (renamed ρ) rs)) (sym (items_renamed ρ fs)) (parts_renamed parts)) (omega arith) (omega arith)
        (subst (λ (h : Form). Has h (relabelled ρ t)) (sym (conjunction_renamed ρ one width ls)) (trees_renamed left))
        (subst (λ (h : Form). Has h (relabelled ρ u)) (sym (conjunction_renamed ρ one width rs)) (trees_renamed right))
    trees_renamed (sharing_law occ also a b c) = sharing_law (occurs_renamed occ) (occurs_renamed also) (trees_renamed a) (trees_renamed b) (trees_renamed c)
    trees_renamed (factoring_law {f = f} {h = h} pair tree) = factoring_law (one_signal f h pair) (trees_renamed tree)
    trees_renamed (overlap_law {fs = fs} {ls = ls} {rs = rs} {t = t} {u = u} further occ parts differ some many left right) =
        let long : length (map (renamed ρ) ls) ≡ length ls = length-map ls (renamed ρ) in
        let also : length (map (renamed ρ) rs) ≡ length rs = length-map rs (renamed ρ) in
        overlap_law further (occurs_renamed occ) (subst (λ (xs : List Form). AreOverlapping xs (map (renamed ρ) ls) (map (renamed ρ) rs)) (sym (items_renamed ρ fs)) (overlap_renamed parts)) (λ e. differ (lists_one ls rs e)) (omega arith) (omega arith)
        (subst (λ (h : Form). Has h (relabelled ρ t)) (sym (conjunction_renamed ρ one width ls)) (trees_renamed left))
        (subst (λ (h : Form). Has h (relabelled ρ u)) (sym (conjunction_renamed ρ one width rs)) (trees_renamed right))
    trees_renamed (tied_inverter_law {f = f} {t = t} {u = u} further occ left right) =
        tied_inverter_law further (occurs_renamed occ) (subst (λ (h : Form). Has h (relabelled ρ t)) (sym (complement_renamed ρ f)) (trees_renamed left))
        (subst (λ (h : Form). Has h (relabelled ρ u)) (sym (complement_renamed ρ f)) (trees_renamed right))
