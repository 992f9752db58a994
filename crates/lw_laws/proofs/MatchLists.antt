-- A netlist that a list of matches makes is one of matches, and a class has one net in it.
use Rattle.std.proofs.Common.{ℕ, ◌+◌, ◌<◌, ◌≡◌, ◌⊎◌, inl, inr, List, [], ◌∷◌, length, map, Some, slice_get, ap, sym, ◌∙◌, subst, arith}
use Rattle.std.specs.List.{AllByRecursion, AllZip}
use Rattle.std.proofs.lemmas.List.{length-map}
use Rattle.std.proofs.lemmas.Option.{slice_get_within}
use Rattle.lw_laws.specs.Graphs.{Graph}
use Rattle.lw_laws.specs.Covers.{Pattern}
use Rattle.lw_laws.specs.Netlists.{Gate, Netlist, IsGate, AreOrdered}
use Rattle.lw_laws.specs.Extracts.{IsMatchBy, IsLeafClass, IsNetOf, class_at, AreDistinctLeaves}
use Rattle.lw_laws.specs.Mapped.{IsMapped}
use Rattle.lw_laws.specs.MatchLists.{Gated, gated_classes, HasNetBefore, AreGatesApart, AreMatchesInOrder, IsGateOf, IsMadeOf, IsMatchNetlist}
use Rattle.lw_laws.proofs.Extracts.{slice_get_append, slice_get_left, input_class, gate_match}
use Rattle.lw_laws.proofs.Lists.{slice_get_some}
use Rattle.lw_laws.proofs.Numbers.{slice_get_map}

module _ (g : Graph) (gates : List ℕ) where
  -- a net is an input's or a gate's
  pub net_side : (c k : ℕ) → IsNetOf g gates c k → ((k < length g.leaves) × (slice_get g.leaves k ≡ Some c)) ⊎ ((i : ℕ) × (slice_get gates i ≡ Some c) × (k ≡ length g.leaves + i))
  net_side c k at = by_side (slice_get_append g.leaves gates k c at)
    where
      by_side : (k < length g.leaves) ⊎ ((i : ℕ) × (slice_get gates i ≡ Some c) × (k ≡ length g.leaves + i)) → ((k < length g.leaves) × (slice_get g.leaves k ≡ Some c)) ⊎ ((i : ℕ) × (slice_get gates i ≡ Some c) × (k ≡ length g.leaves + i))
      by_side (inl lt) =
          let (d, here) = slice_get_some g.leaves k lt in
          let there = slice_get_left g.leaves gates k d here in
          let same : d ≡ c = cc in
          inl (lt, here ∙ ap Some same)
      by_side (inr found) = inr found

  module _ (apart : AreGatesApart g gates) where
    -- a class has one net
    pub class_net_once : AreDistinctLeaves g → (c k l : ℕ) → IsNetOf g gates c k → IsNetOf g gates c l → k ≡ l
    class_net_once distinct c k l e f = by_side (net_side c k e) (net_side c l f)
      where
        by_side : ((k < length g.leaves) × (slice_get g.leaves k ≡ Some c)) ⊎ ((i : ℕ) × (slice_get gates i ≡ Some c) × (k ≡ length g.leaves + i)) → ((l < length g.leaves) × (slice_get g.leaves l ≡ Some c)) ⊎ ((i : ℕ) × (slice_get gates i ≡ Some c) × (l ≡ length g.leaves + i)) → k ≡ l
        by_side (inl (p, at)) (inl (q, bt)) = distinct k l c at bt
        by_side (inl (p, at)) (inr (j, bt, t)) = absurd (apart.no_leaf j c bt (k, at))
        by_side (inr (i, at, s)) (inl (q, bt)) = absurd (apart.no_leaf i c at (l, bt))
        by_side (inr (i, at, s)) (inr (j, bt, t)) = let same = apart.once i j c at bt in omega arith

    -- where one net of a class is before gate j, all are
    pub all_before : (j c net : ℕ) → HasNetBefore g gates j c → IsNetOf g gates c net → net < length g.leaves + j
    all_before j c net (first, lt, at) bt = by_side (net_side c first at) (net_side c net bt)
      where
        by_side : ((first < length g.leaves) × (slice_get g.leaves first ≡ Some c)) ⊎ ((i : ℕ) × (slice_get gates i ≡ Some c) × (first ≡ length g.leaves + i)) → ((net < length g.leaves) × (slice_get g.leaves net ≡ Some c)) ⊎ ((i : ℕ) × (slice_get gates i ≡ Some c) × (net ≡ length g.leaves + i)) → net < length g.leaves + j
        by_side one (inl (q, there)) = omega arith
        by_side (inl (p, here)) (inr (i, there, t)) = absurd (apart.no_leaf i c there (first, here))
        by_side (inr (k, here, s)) (inr (i, there, t)) = let same = apart.once k i c here there in omega arith

    pub pins_before : (j : ℕ) (qs nets : List ℕ) → AllByRecursion (HasNetBefore g gates j) qs → AllZip (λ q net. IsNetOf g gates q net) qs nets → AllByRecursion (λ p. p < length g.leaves + j) nets
    pins_before j [] [] a z = tt
    pins_before j [] (net ∷ nets) a z = absurd z
    pins_before j (q ∷ qs) [] a z = absurd z
    pins_before j (q ∷ qs) (net ∷ nets) (h, a) (at, z) = (all_before j q net h at, pins_before j qs nets a z)

-- the netlist that matches in order make is one of matches
pub made_is_matches : (g : Graph) (pin_counts : List ℕ) (pats : List Pattern) (xs : List Gated) (n : Netlist) → AreMatchesInOrder g pin_counts pats xs → IsMadeOf g pats xs n → IsMatchNetlist g pin_counts pats (gated_classes xs) n
made_is_matches g pin_counts pats xs n are made = record {
  inputs = made.inputs;
  one_each = made.one_each ∙ sym (length-map xs (λ x. x.class));
  apart = are.apart;
  ordered = λ j gt at.
      let (x, here) = beside j gt at in
      let of = made.gates j x gt here at in
      subst (λ m. AllByRecursion (λ p. p < m + j) gt.pins) (sym made.inputs) (pins_before g (gated_classes xs) are.apart j x.found.pins gt.pins (are.before j x here) of.pins);
  mapped = record {
    inputs = input_class g (gated_classes xs) n made.inputs;
    gates = λ j gt at.
        let (x, here) = beside j gt at in
        let of = made.gates j x gt here at in
        let (p, is) = are.matches j x here in
        gate_match g (gated_classes xs) n made.inputs pin_counts pats j x.class x.found p gt (slice_get_map (λ y. y.class) xs j x here) is (of.cell p is.listed) of.pins;
  };
}
  where
    beside : (j : ℕ) (gt : Gate) → IsGate n j gt → (x : Gated) × (slice_get xs j ≡ Some x)
    beside j gt at =
        let lt = slice_get_within n.gates j gt at in
        let same = made.one_each in
        slice_get_some xs j (omega arith)
