-- Gates of chosen matches, one after another.
use Rattle.std.proofs.Common.{ℕ, ◌+◌, ◌<◌, ◌≡◌, ◌⊎◌, inl, inr, List, [], ◌∷◌, ◌++◌, length, Some, slice_get, get_or, take, map, ap, sym, ◌∙◌, subst, arith, length-append}
use Rattle.std.proofs.lemmas.Option.{same_Some, slice_get_within, get_or_from_slice_get}
use Rattle.lw_facts.proofs.Lists.{get_last_cases}
use Rattle.lw_pool.specs.declared.id.ClassId.{ClassId}
use Rattle.lw_pool.specs.declared.name.Name.{Name}
use Rattle.lw_laws.specs.Covers.{Pattern}
use Rattle.lw_netlist.specs.declared.gate.Gate.{Gate}
use Rattle.lw_netlist.specs.declared.gate.Port.{Port}
use Rattle.lw_extract.specs.declared.choosing.Chosen.{Chosen}
use Rattle.lw_extract.specs.Nets.{Nets, net_in}
use Rattle.lw_extract.specs.Gates.{IsGateOf, AreGatesOf}
use Rattle.lw_extract.proofs.Places.{names_more, readings_more}

-- the gates of the first matches
pub record AreFirstGates (pats : List Pattern) (nets : Nets) (inputs : ℕ) (chosen : List Chosen) (count : ℕ) (gates : List Gate) : Type 0 where
  pub one_each : length gates ≡ count
  pub each : (j : ℕ) (x : Chosen) (gate : Gate) → slice_get chosen j ≡ Some x → slice_get gates j ≡ Some gate → IsGateOf pats nets (inputs + j) x gate

module _ (pats : List Pattern) (nets : Nets) (inputs : ℕ) (chosen : List Chosen) where
  pub gates_one_more : (j : ℕ) (x : Chosen) (gate : Gate) (gates : List Gate) → slice_get chosen j ≡ Some x → IsGateOf pats nets (inputs + j) x gate → AreFirstGates pats nets inputs chosen j gates → AreFirstGates pats nets inputs chosen (j + 1) (gates ++ gate ∷ [])
  gates_one_more j x gate gates at is are = record {
    one_each = let added = length-append gates (gate ∷ []) in let before = are.one_each in omega arith;
    each = λ k y other here there. by_place k y other here (get_last_cases gates gate k other there);
  }
    where
      by_place : (k : ℕ) (y : Chosen) (other : Gate) → slice_get chosen k ≡ Some y → (slice_get gates k ≡ Some other) ⊎ ((k ≡ length gates) × (other ≡ gate)) → IsGateOf pats nets (inputs + k) y other
      by_place k y other here (inl old) = are.each k y other here old
      by_place k y other here (inr (last, same)) =
          let place : k ≡ j = last ∙ are.one_each in
          let chosen_one : x ≡ y = same_Some x y (sym at ∙ (ap (λ i. slice_get chosen i) (sym place) ∙ here)) in
          subst (λ i. IsGateOf pats nets (inputs + i) y other) (sym place) (subst (λ z. IsGateOf pats nets (inputs + j) z other) chosen_one (subst (λ z. IsGateOf pats nets (inputs + j) x z) (sym same) is))

  pub gates_all : (count : ℕ) (gates : List Gate) → count ≡ length chosen → AreFirstGates pats nets inputs chosen count gates → AreGatesOf pats nets inputs chosen gates
  gates_all count gates all are = record { one_each = are.one_each ∙ all; each = are.each }

-- the outputs of the first roots
pub record AreFirstOutputs (names : List Name) (roots : List ClassId) (nets : Nets) (count : ℕ) (outputs : List Port) : Type 0 where
  pub names_are : map (λ (port : Port). port.name) outputs ≡ take count names
  pub nets_are : map (λ (port : Port). Some port.net) outputs ≡ map (net_in nets) (take count roots)

pub outputs_more : (names : List Name) (roots : List ClassId) (nets : Nets) (k : ℕ) (name : Name) (root : ClassId) (outputs : List Port) (port : Port) → k < length names → name ≡ get_or names k name → slice_get roots k ≡ Some root → port.name ≡ name → net_in nets root ≡ Some port.net → AreFirstOutputs names roots nets k outputs → AreFirstOutputs names roots nets (k + 1) (outputs ++ port ∷ [])
outputs_more names roots nets k name root outputs port inside named rooted name_is net_is before = record {
  names_are = names_more (λ (p : Port). p.name) names k name outputs port inside named name_is before.names_are;
  nets_are = readings_more (net_in nets) (λ (p : Port). Some p.net) roots k root outputs port (slice_get_within roots k root rooted) (sym (get_or_from_slice_get roots k root root rooted)) net_is before.nets_are;
}
