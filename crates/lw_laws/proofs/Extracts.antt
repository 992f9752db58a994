-- The netlist of chosen matches is ordered and mapped.
use Rattle.std.proofs.Common.{ℕ, zero, suc, ◌+◌, ◌<◌, ◌≤◌, ◌≡◌, ◌⊎◌, inl, inr, List, [], ◌∷◌, length, map, Some, slice_get, Contains, refl, ap, ap₂, sym, ◌∙◌, subst, arith, ◌++◌, zero-add, suc-add}
use Rattle.std.specs.List.{AllByRecursion, AllZip, slice_index_or}
use Rattle.std.proofs.lemmas.Option.{slice_get_within}
use Rattle.lw_facts.proofs.Lists.{index_at}
use native.Mathlib.Decide.{dec_lt}
use Rattle.lw_laws.specs.Graphs.{Graph}
use Rattle.lw_laws.specs.Costs.{Cost}
use Rattle.lw_laws.specs.Choices.{Labels, HaveLabels}
use Rattle.lw_laws.specs.Covers.{Pattern}
use Rattle.lw_laws.specs.Netlists.{Gate, Netlist, IsGate, AreOrdered, AreNetCosts}
use Rattle.lw_laws.specs.Extracts.{Match, IsListAtMost, IsMatchAtMost, IsMatchBy, IsChosen, IsGateBefore, net_classes, class_at, IsNetOf, IsExtracted, HaveLeafLabels}
use Rattle.lw_laws.specs.Matches.{IsMatchAt}
use Rattle.lw_laws.specs.Mapped.{IsMapped}
use Rattle.lw_laws.proofs.Lists.{slice_get_some}

pub slice_get_append : (xs ys : List ℕ) (k c : ℕ) → slice_get (xs ++ ys) k ≡ Some c → (k < length xs) ⊎ ((i : ℕ) × (slice_get ys i ≡ Some c) × (k ≡ length xs + i))
slice_get_append [] ys k c e = inr (k, e, omega arith)
slice_get_append (x ∷ xs) ys zero c e = inl (omega arith)
slice_get_append (x ∷ xs) ys (suc k) c e = by_case (slice_get_append xs ys k c e)
  where
    by_case : (k < length xs) ⊎ ((i : ℕ) × (slice_get ys i ≡ Some c) × (k ≡ length xs + i)) → (suc k < length (x ∷ xs)) ⊎ ((i : ℕ) × (slice_get ys i ≡ Some c) × (suc k ≡ length (x ∷ xs) + i))
    by_case (inl lt) = inl (omega arith)
    by_case (inr (i, f, s)) = inr (i, f, omega arith)

pub slice_get_left : (xs ys : List ℕ) (k c : ℕ) → slice_get xs k ≡ Some c → slice_get (xs ++ ys) k ≡ Some c
slice_get_left [] ys k c e = cc
slice_get_left (x ∷ xs) ys zero c e = e
slice_get_left (x ∷ xs) ys (suc k) c e = slice_get_left xs ys k c e

pub slice_get_right : (xs ys : List ℕ) (j c : ℕ) → slice_get ys j ≡ Some c → slice_get (xs ++ ys) (length xs + j) ≡ Some c
slice_get_right [] ys j c e = rw zero-add e
slice_get_right (x ∷ xs) ys j c e = rw suc-add (slice_get_right xs ys j c e)

pub listed_at : (ps : List Pattern) (k : ℕ) (p : Pattern) → slice_get ps k ≡ Some p → Contains ps p
listed_at ps k p e = (k, slice_get_within ps k p e, read ps k e)
  where
    read : (qs : List Pattern) (i : ℕ) → slice_get qs i ≡ Some p → slice_index_or qs i p ≡ p
    read [] i f = cc
    read (q ∷ qs) zero f = cc
    read (q ∷ qs) (suc i) f = read qs i f

IsListAtMost_both : (xs ys : List ℕ) → IsListAtMost xs ys → IsListAtMost ys xs → xs ≡ ys
IsListAtMost_both [] [] a b = refl
IsListAtMost_both [] (y ∷ ys) a b = absurd b
IsListAtMost_both (x ∷ xs) [] a b = absurd a
IsListAtMost_both (x ∷ xs) (y ∷ ys) (inl h) (inl k) = absurd (omega arith)
IsListAtMost_both (x ∷ xs) (y ∷ ys) (inl h) (inr (e, k)) = absurd (omega arith)
IsListAtMost_both (x ∷ xs) (y ∷ ys) (inr (e, h)) (inl k) = absurd (omega arith)
IsListAtMost_both (x ∷ xs) (y ∷ ys) (inr (e, h)) (inr (f, k)) = ap₂ (λ z zs. z ∷ zs) e (IsListAtMost_both xs ys h k)

IsMatchAtMost_both : (m k : Match) → IsMatchAtMost m k → IsMatchAtMost k m → (m.pattern ≡ k.pattern) × (m.pins ≡ k.pins)
IsMatchAtMost_both m k (inl h) (inl l) = absurd (omega arith)
IsMatchAtMost_both m k (inl h) (inr (e, l)) = absurd (omega arith)
IsMatchAtMost_both m k (inr (e, h)) (inl l) = absurd (omega arith)
IsMatchAtMost_both m k (inr (e, h)) (inr (f, l)) = (e, IsListAtMost_both m.pins k.pins h l)

-- a class that is lower than that of gate j has its net before that of gate j
pub lower_before : (heights : ℕ → ℕ) (gates : List ℕ) → ((i j c d : ℕ) → slice_get gates i ≡ Some c → slice_get gates j ≡ Some d → i < j → IsGateBefore heights c d) → (i j c d : ℕ) → slice_get gates i ≡ Some c → slice_get gates j ≡ Some d → heights c < heights d → i < j
lower_before heights gates sorted i j c d e f lt = by_order (dec_lt i j)
  where
    not_after : IsGateBefore heights d c → ⊥
    not_after (inl h) = omega arith
    not_after (inr (s, h)) = omega arith

    by_order : Dec (i < j) → i < j
    by_order (yes l) = l
    by_order (no out) = by_place (dec_lt j i)
      where
        by_place : Dec (j < i) → i < j
        by_place (yes l) = absurd (not_after (sorted j i d c f e l))
        by_place (no out') =
            let s : i ≡ j = omega arith in
            let t : slice_get gates j ≡ Some c = ap (slice_get gates) (sym s) ∙ e in
            let u : c ≡ d = cc in
            let v : heights c ≡ heights d = ap heights u in
            absurd (omega arith)

-- Gates that are matches over the classes of nets.
module _ (g : Graph) (gates : List ℕ) (n : Netlist) (inputs : n.inputs ≡ length g.leaves) where
  pins_of_nets : (qs nets : List ℕ) → AllZip (λ q net. IsNetOf g gates q net) qs nets → map (class_at g gates) nets ≡ qs
  pins_of_nets [] [] z = refl
  pins_of_nets [] (net ∷ nets) z = absurd z
  pins_of_nets (q ∷ qs) [] z = absurd z
  pins_of_nets (q ∷ qs) (net ∷ nets) (e, z) =
      ap₂ (λ p ps. p ∷ ps) (index_at (net_classes g gates) net q e) (pins_of_nets qs nets z)

  -- the class of an input's net
  pub input_class : (i : ℕ) → i < n.inputs → slice_get g.leaves i ≡ Some (class_at g gates i)
  input_class i in' =
      let (c, e) = slice_get_some g.leaves i (subst (λ m. i < m) inputs in') in
      e ∙ ap Some (sym (index_at (net_classes g gates) i c (slice_get_left g.leaves gates i c e)))

  -- the gate of a match is one at the class of its net
  pub gate_match : (pin_counts : List ℕ) (pats : List Pattern) (j c : ℕ) (m : Match) (p : Pattern) (gt : Gate) → slice_get gates j ≡ Some c → IsMatchBy g pin_counts pats c m p → gt.cell ≡ p.cell → AllZip (λ q net. IsNetOf g gates q net) m.pins gt.pins → IsMatchAt g pin_counts pats (class_at g gates (n.inputs + j)) gt.cell (map (class_at g gates) gt.pins)
  gate_match pin_counts pats j c m p gt e t cell nets =
      let s : slice_get (net_classes g gates) (n.inputs + j) ≡ Some c = subst (λ k. slice_get (net_classes g gates) (k + j) ≡ Some c) (sym inputs) (slice_get_right g.leaves gates j c e) in
      let u = index_at (net_classes g gates) (n.inputs + j) c s in
      let v = pins_of_nets m.pins gt.pins nets in
      record {
        pattern = p;
        listed = listed_at pats m.pattern p t.listed;
        cell_is = sym cell;
        pins = rw (cell, v) t.pins;
        stands = rw (u, v) t.stands;
      }

module _ (g : Graph) (cost : Cost) (pats : List Pattern) (labels : Labels) (heights : ℕ → ℕ) where
  -- the chosen match is one
  pub IsChosen_once : (c : ℕ) (m k : Match) (p q : Pattern) → IsChosen g cost pats labels heights c m p → IsChosen g cost pats labels heights c k q → (m.pattern ≡ k.pattern) × (m.pins ≡ k.pins)
  IsChosen_once c m k p q a b = IsMatchAtMost_both m k (a.first k q b.supports) (b.first m p a.supports)

  module _ (gates : List ℕ) (n : Netlist) (sorted : (i j c d : ℕ) → slice_get gates i ≡ Some c → slice_get gates j ≡ Some d → i < j → IsGateBefore heights c d) (is : IsExtracted g cost pats labels heights gates n) where
    net_before : (j d q net : ℕ) → slice_get gates j ≡ Some d → heights q < heights d → IsNetOf g gates q net → net < n.inputs + j
    net_before j d q net e lt is_net = by_case (slice_get_append g.leaves gates net q is_net)
      where
        by_case : (net < length g.leaves) ⊎ ((i : ℕ) × (slice_get gates i ≡ Some q) × (net ≡ length g.leaves + i)) → net < n.inputs + j
        by_case (inl in') = let s = is.inputs in omega arith
        by_case (inr (i, f, s)) = let l = lower_before heights gates sorted i j q d f e lt in let t = is.inputs in omega arith

    nets_before : (j d : ℕ) (qs nets : List ℕ) → slice_get gates j ≡ Some d → AllByRecursion (λ q. suc (heights q) ≤ heights d) qs → AllZip (λ q net. IsNetOf g gates q net) qs nets → AllByRecursion (λ p. p < n.inputs + j) nets
    nets_before j d [] [] e a z = tt
    nets_before j d [] (net ∷ nets) e a z = absurd z
    nets_before j d (q ∷ qs) [] e a z = tt
    nets_before j d (q ∷ qs) (net ∷ nets) e (lt, a) (is_net, z) =
        (net_before j d q net e lt is_net, nets_before j d qs nets e a z)

    -- gates stand behind the gates of their pins
    pub extracted_ordered : AreOrdered n
    extracted_ordered j gt at =
        let (c, m, p, e, chosen, cell, nets) = is.chosen j gt at in
        nets_before j c m.pins gt.pins e chosen.supports.lower nets

    -- each gate is a match of its class with the classes of its pins
    pub extracted_mapped : IsMapped g cost.pin_counts pats n (class_at g gates)
    extracted_mapped = record {
      inputs = input_class g gates n is.inputs;
      gates = λ j gt at.
          let (c, m, p, e, chosen, cell, nets) = is.chosen j gt at in
          gate_match g gates n is.inputs cost.pin_counts pats j c m p gt e chosen.supports.matches cell nets;
    }

-- the cost of each net is the label of its class
module _ (g : Graph) (cost : Cost) (pats : List Pattern) (labels : Labels) (heights : ℕ → ℕ) (gates : List ℕ) (n : Netlist) (sorted : (i j c d : ℕ) → slice_get gates i ≡ Some c → slice_get gates j ≡ Some d → i < j → IsGateBefore heights c d) (is : IsExtracted g cost pats labels heights gates n) (costs : List ℕ) (are : AreNetCosts cost n costs) (leaf_labels : HaveLeafLabels g cost labels) where
  pin_costs : (qs nets ls : List ℕ) (m : ℕ) → AllZip (λ q net. IsNetOf g gates q net) qs nets → HaveLabels labels qs ls → AllByRecursion (λ p. p < m) nets → ((q net : ℕ) → IsNetOf g gates q net → net < m → labels q ≡ Some (slice_index_or costs net 0)) → ls ≡ map (λ p. slice_index_or costs p 0) nets
  pin_costs [] [] [] m z es a f = refl
  pin_costs [] [] (l ∷ ls) m z es a f = absurd es
  pin_costs [] (net ∷ nets) ls m z es a f = absurd z
  pin_costs (q ∷ qs) [] ls m z es a f = absurd z
  pin_costs (q ∷ qs) (net ∷ nets) [] m z es a f = absurd es
  pin_costs (q ∷ qs) (net ∷ nets) (l ∷ ls) m (is_net, z) (e, es) (lt, a) f =
      let h = f q net is_net lt in
      let s : l ≡ slice_index_or costs net 0 = cc in
      ap₂ (λ x xs. x ∷ xs) s (pin_costs qs nets ls m z es a f)

  gate_cost : (j : ℕ) (gt : Gate) (c q : ℕ) → IsGate n j gt → slice_get gates j ≡ Some q → q ≡ c → ((q net : ℕ) → IsNetOf g gates q net → net < n.inputs + j → labels q ≡ Some (slice_index_or costs net 0)) → labels c ≡ Some (slice_index_or costs (n.inputs + j) 0)
  gate_cost j gt c q at here same f =
      let (d, m, p, e, chosen, cell, nets) = is.chosen j gt at in
      let s = chosen.supports in
      let before = extracted_ordered g cost pats labels heights gates n sorted is j gt at in
      let ls = pin_costs m.pins gt.pins s.pin_labels (n.inputs + j) nets s.have before f in
      let u : d ≡ c = cc in
      let a : slice_index_or costs (n.inputs + j) 0 ≡ cost.value gt.cell (map (λ p. slice_index_or costs p 0) gt.pins) = index_at costs (n.inputs + j) _ (are.gates j gt at) in
      ap labels (sym u) ∙ (s.value ∙ ap Some (ap₂ cost.value (sym cell) ls ∙ sym a))

  input_cost : (q net : ℕ) → net < length g.leaves → IsNetOf g gates q net → labels q ≡ Some (slice_index_or costs net 0)
  input_cost q net l is_net =
      let (c, e) = slice_get_some g.leaves net l in
      let f = slice_get_left g.leaves gates net c e in
      let k = leaf_labels c net e in
      let lt : net < n.inputs = subst (λ k. net < k) (sym is.inputs) l in
      let z = index_at costs net (cost.leaf net) (are.inputs net lt) in
      let s : c ≡ q = cc in
      ap labels (sym s) ∙ (k ∙ ap Some (sym z))

  net_cost_below : (m q net : ℕ) → net < m → IsNetOf g gates q net → net < n.inputs + length n.gates → labels q ≡ Some (slice_index_or costs net 0)
  net_cost_below zero q net lt is_net in' = absurd (omega arith)
  net_cost_below (suc m) q net lt is_net in' = by_case (net_cost_below m) (slice_get_append g.leaves gates net q is_net)
    where
      by_case : ((r k : ℕ) → k < m → IsNetOf g gates r k → k < n.inputs + length n.gates → labels r ≡ Some (slice_index_or costs k 0)) → (net < length g.leaves) ⊎ ((i : ℕ) × (slice_get gates i ≡ Some q) × (net ≡ length g.leaves + i)) → labels q ≡ Some (slice_index_or costs net 0)
      by_case below (inl l) = input_cost q net l is_net
      by_case below (inr (j, e, s)) =
          let t = is.inputs in
          let (gt, at) = slice_get_some n.gates j (omega arith) in
          let h = gate_cost j gt q q at e refl (λ r k is_k l. below r k (omega arith) is_k (omega arith)) in
          let u : n.inputs + j ≡ net = omega arith in
          subst (λ k. labels q ≡ Some (slice_index_or costs k 0)) u h

  -- the cost of a net is the label of its class
  pub net_cost : (q net : ℕ) → IsNetOf g gates q net → net < n.inputs + length n.gates → labels q ≡ Some (slice_index_or costs net 0)
  net_cost q net is_net in' = net_cost_below (suc net) q net (omega arith) is_net in'
