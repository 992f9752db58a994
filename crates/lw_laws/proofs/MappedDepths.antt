-- The gates of a mapped netlist stand by depth: the depth of each net is the height of its class.
use Rattle.std.proofs.Common.{ℕ, zero, suc, ◌+◌, ◌<◌, ◌≤◌, ◌≡◌, ◌⊎◌, inl, inr, max, List, [], ◌∷◌, length, Some, slice_get, slice_index_or, refl, ap, ap₂, sym, ◌∙◌, subst, arith}
use Rattle.std.specs.List.{AllByRecursion, AllZip}
use Rattle.std.proofs.lemmas.Option.{get_or_from_slice_get}
use Rattle.lw_laws.specs.Networks.{greatest_depth}
use Rattle.lw_laws.specs.Graphs.{Graph}
use Rattle.lw_laws.specs.Costs.{Cost}
use Rattle.lw_laws.specs.Choices.{Labels, HaveLabels, IsWithin, IsHeight}
use Rattle.lw_laws.specs.Covers.{Pattern}
use Rattle.lw_laws.specs.Matches.{choices_of}
use Rattle.lw_laws.specs.Netlists.{Gate, Netlist, IsGate, AreNetDepths, AreByDepth}
use Rattle.lw_laws.specs.Extracts.{IsChosen, IsLeafClass, AreGateClasses, IsNetOf, IsExtracted, HaveLeafLabels, Match}
use Rattle.lw_laws.proofs.Heights.{IsWithin_more}
use Rattle.lw_laws.proofs.Extracts.{slice_get_append, slice_get_left, slice_get_right, extracted_ordered, listed_at}
use Rattle.lw_laws.proofs.Lists.{slice_get_some}

-- the greatest height of some classes
greatest_of : (ℕ → ℕ) → List ℕ → ℕ
greatest_of heights [] = 0
greatest_of heights (q ∷ qs) = max (heights q) (greatest_of heights qs)

greatest_low : (heights : ℕ → ℕ) (h : ℕ) (qs : List ℕ) → 1 ≤ h → AllByRecursion (λ q. suc (heights q) ≤ h) qs → suc (greatest_of heights qs) ≤ h
unfolding greatest_of
greatest_low heights h [] pos a = pos
greatest_low heights h (q ∷ qs) pos (le, a) = let ih = greatest_low heights h qs pos a in omega arith

module _ (g : Graph) (cost : Cost) (pats : List Pattern) (labels : Labels) (heights : ℕ → ℕ) (height : (c l : ℕ) → labels c ≡ Some l → IsHeight (choices_of g cost.pin_counts pats) cost labels c (heights c)) where
  pins_within : (qs ls : List ℕ) (m : ℕ) → HaveLabels labels qs ls → greatest_of heights qs ≤ m → AllByRecursion (λ q. IsWithin (choices_of g cost.pin_counts pats) cost labels q m) qs
  unfolding greatest_of
  pins_within [] ls m es le = tt
  pins_within (q ∷ qs) [] m es le = absurd es
  pins_within (q ∷ qs) (l ∷ ls) m (e, es) le =
      (IsWithin_more (choices_of g cost.pin_counts pats) cost labels (heights q) m (omega arith) q (height q l e).within, pins_within qs ls m es (omega arith))

  -- a class that is no input's is one higher than the highest pin of its chosen match
  chosen_height : (c : ℕ) (m : Match) (p : Pattern) → (IsLeafClass g c → ⊥) → IsChosen g cost pats labels heights c m p → heights c ≡ suc (greatest_of heights m.pins)
  chosen_height c m p out is =
      let s = is.supports in
      let here = height c (cost.value p.cell s.pin_labels) s.value in
      let pos : 1 ≤ heights c = no_input (heights c) here.within in
      let above = greatest_low heights (heights c) m.pins pos s.lower in
      let below = here.least (suc (greatest_of heights m.pins)) (inr (
        p.cell,
        m.pins,
        record {
          stands = record { pattern = p; listed = listed_at pats m.pattern p s.matches.listed; cell_is = refl; pins = s.matches.pins; stands = s.matches.stands };
          pin_labels = s.pin_labels;
          have = s.have;
          value = s.value;
        },
        pins_within m.pins s.pin_labels (greatest_of heights m.pins) s.have (omega arith),
      )) in
      omega arith
    where
      no_input : (h : ℕ) → IsWithin (choices_of g cost.pin_counts pats) cost labels c h → 1 ≤ h
      no_input zero w = absurd (out w)
      no_input (suc h) w = omega arith

  module _ (roots gates : List ℕ) (n : Netlist) (classes : AreGateClasses g cost pats labels heights roots gates) (is : IsExtracted g cost pats labels heights gates n) (leaf_labels : HaveLeafLabels g cost labels) (depths : List ℕ) (are : AreNetDepths n depths) where
    pin_depths : (qs nets : List ℕ) (m : ℕ) → AllZip (λ q net. IsNetOf g gates q net) qs nets → AllByRecursion (λ p. p < m) nets → ((q net : ℕ) → IsNetOf g gates q net → net < m → slice_index_or depths net 0 ≡ heights q) → greatest_depth depths nets ≡ greatest_of heights qs
    unfolding greatest_of
    pin_depths [] [] m z a f = refl
    pin_depths [] (net ∷ nets) m z a f = absurd z
    pin_depths (q ∷ qs) [] m z a f = absurd z
    pin_depths (q ∷ qs) (net ∷ nets) m (is_net, z) (lt, a) f = ap₂ max (f q net is_net lt) (pin_depths qs nets m z a f)

    gate_depth : (j : ℕ) (gt : Gate) (c : ℕ) → IsGate n j gt → slice_get gates j ≡ Some c → ((q net : ℕ) → IsNetOf g gates q net → net < n.inputs + j → slice_index_or depths net 0 ≡ heights q) → slice_index_or depths (n.inputs + j) 0 ≡ heights c
    gate_depth j gt c at here f =
        let (d, m, p, e, chosen, cell, nets) = is.chosen j gt at in
        let before = extracted_ordered g cost pats labels heights gates n classes.sorted is j gt at in
        let same : d ≡ c = cc in
        let pins = pin_depths m.pins gt.pins (n.inputs + j) nets before f in
        let high = chosen_height d m p (classes.needed j d e).1 chosen in
        let read = get_or_from_slice_get depths (n.inputs + j) (1 + greatest_depth depths gt.pins) 0 (are.gates j gt at) in
        let same_height = ap heights same in
        read ∙ omega arith

    input_depth : (q net : ℕ) → net < length g.leaves → IsNetOf g gates q net → slice_index_or depths net 0 ≡ heights q
    input_depth q net l is_net =
        let (c, e) = slice_get_some g.leaves net l in
        let f = slice_get_left g.leaves gates net c e in
        let same : c ≡ q = cc in
        let low = (height c (cost.leaf net) (leaf_labels c net e)).least 0 (net, e) in
        let lt : net < n.inputs = subst (λ k. net < k) (sym is.inputs) l in
        let read = get_or_from_slice_get depths net 0 0 (are.inputs net lt) in
        let same_height = ap heights same in
        read ∙ omega arith

    net_depth_below : (m q net : ℕ) → net < m → IsNetOf g gates q net → net < n.inputs + length n.gates → slice_index_or depths net 0 ≡ heights q
    net_depth_below zero q net lt is_net in' = absurd (omega arith)
    net_depth_below (suc m) q net lt is_net in' = by_case (net_depth_below m) (slice_get_append g.leaves gates net q is_net)
      where
        by_case : ((r k : ℕ) → k < m → IsNetOf g gates r k → k < n.inputs + length n.gates → slice_index_or depths k 0 ≡ heights r) → (net < length g.leaves) ⊎ ((i : ℕ) × (slice_get gates i ≡ Some q) × (net ≡ length g.leaves + i)) → slice_index_or depths net 0 ≡ heights q
        by_case below (inl l) = input_depth q net l is_net
        by_case below (inr (j, e, s)) =
            let t = is.inputs in
            let (gt, at) = slice_get_some n.gates j (omega arith) in
            let h = gate_depth j gt q at e (λ r k is_k l. below r k (omega arith) is_k (omega arith)) in
            let u : n.inputs + j ≡ net = omega arith in
            subst (λ k. slice_index_or depths k 0 ≡ heights q) u h

    -- the depth of gate j is the height of its class
    pub gate_depth_at : (j c : ℕ) → j < length n.gates → slice_get gates j ≡ Some c → slice_index_or depths (n.inputs + j) 0 ≡ heights c
    gate_depth_at j c lt e =
        let net_of = slice_get_right g.leaves gates j c e in
        let count = is.inputs in
        net_depth_below (suc (n.inputs + j)) c (n.inputs + j) (omega arith) (subst (λ k. slice_get (Rattle.lw_laws.specs.Extracts.net_classes g gates) (k + j) ≡ Some c) (sym is.inputs) net_of) (omega arith)

    pub depths_rise : (i j : ℕ) → i < j → j < length n.gates → slice_index_or depths (n.inputs + i) 0 ≤ slice_index_or depths (n.inputs + j) 0
    depths_rise i j lt in' =
        let count = is.one_each in
        let (c, e) = slice_get_some gates i (omega arith) in
        let (d, f) = slice_get_some gates j (omega arith) in
        let a = gate_depth_at i c (omega arith) e in
        let b = gate_depth_at j d in' f in
        by_order c d a b (classes.sorted i j c d e f lt)
      where
        by_order : (c d : ℕ) → slice_index_or depths (n.inputs + i) 0 ≡ heights c → slice_index_or depths (n.inputs + j) 0 ≡ heights d → (heights c < heights d) ⊎ ((heights c ≡ heights d) × (c < d)) → slice_index_or depths (n.inputs + i) 0 ≤ slice_index_or depths (n.inputs + j) 0
        by_order c d a b (inl l) = omega arith
        by_order c d a b (inr (s, l)) = omega arith

  -- the gates stand by depth
  pub extracted_by_depth : (roots gates : List ℕ) (n : Netlist) → AreGateClasses g cost pats labels heights roots gates → IsExtracted g cost pats labels heights gates n → HaveLeafLabels g cost labels → AreByDepth n
  extracted_by_depth roots gates n classes is leaf depths are = depths_rise roots gates n classes is leaf depths are
