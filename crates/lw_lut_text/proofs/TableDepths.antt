-- The depths of the nets of a network are one list.
use Rattle.std.proofs.Common.{◌≡◌, ◌+◌, ◌-◌, ◌<◌, ◌≤◌, ◌⊎◌, inl, inr, ℕ, zero, suc, max, List, [], ◌∷◌, length, Some, Contains, slice_get, slice_index_or, if◌then◌else◌, refl, sym, ap, ap₂, ◌∙◌, arith}
use Rattle.std.proofs.lemmas.Bool.{cases_lt}
use Rattle.std.proofs.lemmas.Option.{get_or_from_slice_get, slice_get_within}
use Rattle.lw_facts.proofs.Lists.{contains_map}
use Rattle.lw_laws.specs.Networks.{IsInOrder}
use Rattle.lw_laws.proofs.Lists.{slice_get_some}
use Rattle.lw_laws.proofs.Numbers.{slice_get_map}
use Rattle.lw_pool.specs.declared.id.NetId.{NetId}
use Rattle.lw_net.specs.declared.node.Node.{Node}
use Rattle.lw_net.specs.Networks.{NetworkParts}
use Rattle.lw_net.specs.Plain.{plain, plain_node}
use Rattle.lw_lut_text.specs.Said.{AreTableDepths, deepest, is_wire}
use Rattle.lw_lut_text.proofs.SaidSignals.{list_alike}
use Rattle.lw_pool.specs.Numbers.{net_number}

deepest_alike : (ds es : List ℕ) (nets : List NetId) → ((s : NetId) → Contains nets s → slice_index_or ds s.0 0 ≡ slice_index_or es s.0 0) → deepest ds nets ≡ deepest es nets
deepest_alike ds es [] same = refl
deepest_alike ds es (s ∷ nets) same = ap₂ max (same s (zero, omega arith, refl)) (deepest_alike ds es nets (λ t (k, lt, e). same t (suc k, omega (arith, lt), e)))

module _ (net : NetworkParts) (order : IsInOrder (plain net)) (ds es : List ℕ) (a : AreTableDepths net ds) (b : AreTableDepths net es) where
  agree : (bound k : ℕ) → k < bound → k < net.inputs + length net.nodes → slice_index_or ds k 0 ≡ slice_index_or es k 0
  agree zero k lt within = absurd (omega (arith, lt))
  agree (suc bound) k lt within = by_part (cases_lt k net.inputs) (agree bound)
    where
      at_node : (j : ℕ) → k ≡ net.inputs + j → (node : Node) → slice_get net.nodes j ≡ Some node → ((i : ℕ) → i < bound → i < net.inputs + length net.nodes → slice_index_or ds i 0 ≡ slice_index_or es i 0) → slice_index_or ds k 0 ≡ slice_index_or es k 0
      at_node j place node here below =
          let weight : ℕ = if is_wire node then 0 else 1 in
          let same : deepest ds node.fanins ≡ deepest es node.fanins = deepest_alike ds es node.fanins (λ s c.
          let before = order.before j s.0 (plain_node node) (slice_get_map plain_node net.nodes j node here) (contains_map net_number node.fanins s c) in
          below s.0 (omega (arith, before, place, lt)) (omega (arith, before, place, within))) in
          ap (λ i. slice_index_or ds i 0) place
          ∙ (get_or_from_slice_get ds (net.inputs + j) (weight + deepest ds node.fanins) 0 (a.nodes j node here)
          ∙ (ap (λ d. weight + d) same
          ∙ (sym (get_or_from_slice_get es (net.inputs + j) (weight + deepest es node.fanins) 0 (b.nodes j node here))
          ∙ ap (λ i. slice_index_or es i 0) (sym place))))

      by_part : (k < net.inputs) ⊎ (net.inputs ≤ k) → ((i : ℕ) → i < bound → i < net.inputs + length net.nodes → slice_index_or ds i 0 ≡ slice_index_or es i 0) → slice_index_or ds k 0 ≡ slice_index_or es k 0
      by_part (inl input) below = get_or_from_slice_get ds k 0 0 (a.inputs k input) ∙ sym (get_or_from_slice_get es k 0 0 (b.inputs k input))
      by_part (inr from) below =
          let place : k ≡ net.inputs + (k - net.inputs) = omega (arith, from) in
          let (node, here) = slice_get_some net.nodes (k - net.inputs) (omega (arith, from, within)) in
          at_node (k - net.inputs) place node here below

  pub depths_once : ds ≡ es
  depths_once = list_alike ds es (a.one_each ∙ sym b.one_each) (λ k d e f h.
      let lt = slice_get_within ds k d f in
      let one = a.one_each in
      sym (get_or_from_slice_get ds k d 0 f) ∙ (agree (suc k) k (omega arith) (omega (arith, lt, one)) ∙ get_or_from_slice_get es k e 0 h))
