-- The names of a network's inputs and outputs tell them apart.
use Rattle.std.proofs.Common.{ℕ, zero, suc, ◌+◌, ◌<◌, ◌≤◌, ◌≡◌, Bool, true, false, ◌||◌, List, [], ◌∷◌, map, take, length, Some, slice_get, refl, ap, sym, ◌∙◌, subst, arith}
use Rattle.std.specs.List.{AllByRecursion, IsDistinct}
use Rattle.std.specs.Cmp.{IsEquivalence}
use Rattle.std.specs.Set.{is_member}
use Rattle.std.specs.Str.{bytes_eq}
use Rattle.std.proofs.lemmas.List.{length-map, length-take-le}
use Rattle.std.proofs.lemmas.List.Elements.{recursion_from_All}
use Rattle.std.proofs.lemmas.Map.Made.{is_member-Decides, length-le_from_is_member}
use Rattle.std.proofs.lemmas.Option.{get_or_from_slice_get, slice_get_within}
use Rattle.std.proofs.lemmas.Slice.Eq.{bytes_eq-Decides}
use Rattle.lw_pool.specs.declared.id.ClassId.{ClassId}
use Rattle.lw_pool.specs.declared.id.NetId.{NetId}
use Rattle.lw_pool.specs.Numbers.{numbers}
use Rattle.lw_laws.specs.Names.{AreDifferent}
use Rattle.lw_laws.specs.Headline.{Port as PlainPort}
use Rattle.lw_laws.specs.MappedNetlists.{HasPorts, ArePortNames}
use Rattle.lw_laws.proofs.Lists.{slice_get_some, all_map}
use Rattle.lw_laws.proofs.Numbers.{slice_get_map, slice_get_map_back}
use Rattle.lw_net.specs.Networks.{NetworkParts, IsNetwork, name_in, input_names, output_names}
use Rattle.lw_net.specs.Plain as network
use Rattle.lw_lut_text.proofs.ReadNames.{different_of}
use Rattle.lw_net.specs.Ports.{output_port, ports_of}

-- Names that differ

bytes_laws : IsEquivalence bytes_eq
bytes_laws = record { refl = λ x. (bytes_eq-Decides x x).1 refl; symm = λ x y. either x y (bytes_eq x y) (bytes_eq y x) refl refl; congr = λ x y z e. ap (λ (w : List ℕ). bytes_eq w z) ((bytes_eq-Decides x y).0 e) }
  where
    either : (x y : List ℕ) (a b : Bool) → bytes_eq x y ≡ a → bytes_eq y x ≡ b → a ≡ b
    either x y true true e f = refl
    either x y true false e f = sym ((bytes_eq-Decides y x).1 (sym ((bytes_eq-Decides x y).0 e))) ∙ f
    either x y false true e f = sym e ∙ (bytes_eq-Decides x y).1 (sym ((bytes_eq-Decides y x).0 f))
    either x y false false e f = refl

-- Names of a network

take-back : {X : Type 0} (n : ℕ) (xs : List X) (i : ℕ) (x : X) → slice_get (take n xs) i ≡ Some x → slice_get xs i ≡ Some x
take-back zero xs i x e = cc
take-back (suc n) [] i x e = cc
take-back (suc n) (y ∷ xs) zero x e = e
take-back (suc n) (y ∷ xs) (suc i) x e = take-back n xs i x e

module _ (net : NetworkParts) (kept : IsNetwork net) where
  name_at : (o : NetId) → o.0 < length net.names → slice_get net.names o.0 ≡ Some (name_in net o)
  name_at o lt =
      let (x, e) = slice_get_some net.names o.0 lt in
      e ∙ ap Some (sym (get_or_from_slice_get net.names o.0 x [] e))

  pub in_range : (k : ℕ) (o : NetId) → slice_get net.outputs k ≡ Some o → o.0 < length net.names
  in_range k o e = subst (λ (p : NetId). p.0 < length net.names) (get_or_from_slice_get net.outputs k o o e) (kept.outputs k o (slice_get_within net.outputs k o e))

  pub net_in_range : (o : NetId) → o.0 < length net.names → o.0 < net.inputs + length (map network.plain_node net.nodes)
  net_in_range o lt = let n = kept.named in let m = length-map net.nodes network.plain_node in omega arith

  -- the output at the place of a root, and the root at that of an output
  module _ (roots : List ClassId) (class_of : ℕ → ℕ) (are : numbers roots ≡ map (λ (p : PlainPort). class_of p.net) (map (output_port net) net.outputs)) where
    pub output_at : (k : ℕ) (root : ClassId) → slice_get roots k ≡ Some root → (o : NetId) × (slice_get net.outputs k ≡ Some o) × (o.0 < length net.names) × (root.0 ≡ class_of o.0)
    output_at k root at =
        let there : slice_get (map (λ (p : PlainPort). class_of p.net) (map (output_port net) net.outputs)) k ≡ Some root.0 = ap (λ (cs : List ℕ). slice_get cs k) (sym are) ∙ slice_get_map (λ (d : ClassId). d.0) roots k root at in
        let (p, e, same) = slice_get_map_back (λ (p : PlainPort). class_of p.net) (map (output_port net) net.outputs) k root.0 there in
        let (o, f, port) = slice_get_map_back (output_port net) net.outputs k p e in
        (o, f, in_range k o f, sym same ∙ ap (λ (q : PlainPort). class_of q.net) (sym port))

    pub root_at : (k : ℕ) (o : NetId) → slice_get net.outputs k ≡ Some o → (root : ClassId) × (slice_get roots k ≡ Some root) × (root.0 ≡ class_of o.0)
    root_at k o at =
        let there : slice_get (map (λ (d : ClassId). d.0) roots) k ≡ Some (class_of o.0) = ap (λ (cs : List ℕ). slice_get cs k) are ∙ slice_get_map (λ (p : PlainPort). class_of p.net) (map (output_port net) net.outputs) k (output_port net o) (slice_get_map (output_port net) net.outputs k o at) in
        slice_get_map_back (λ (d : ClassId). d.0) roots k (class_of o.0) there

  -- an output with an input's name is that input
  tied : IsDistinct bytes_eq net.names → (i k : ℕ) (p : PlainPort) → slice_get (map (output_port net) net.outputs) k ≡ Some p → slice_get (input_names net) i ≡ Some p.name → p.net ≡ i
  tied differ i k p at e =
      let (o, f, same) = slice_get_map_back (output_port net) net.outputs k p at in
      let net_is : o.0 ≡ p.net = ap (λ (q : PlainPort). q.net) same in
      let name_is : name_in net o ≡ p.name = ap (λ (q : PlainPort). q.name) same in
      sym net_is ∙ different_of net.names differ o.0 i p.name (name_at o (in_range k o f) ∙ ap Some name_is) (take-back net.inputs net.names i p.name e)

  pub port_list : (outputs : List NetId) → map (λ (p : PlainPort). p.name) (map (output_port net) outputs) ≡ map (name_in net) outputs
  port_list [] = refl
  port_list (o ∷ outputs) = ap (λ (ns : List (List ℕ)). name_in net o ∷ ns) (port_list outputs)

  pub has_ports : HasPorts (network.plain net) (ports_of net)
  has_ports = all_map (λ (o : NetId). o.0 < length net.names) (λ (p : PlainPort). p.net < net.inputs + length (map network.plain_node net.nodes)) (output_port net) net.outputs
      net_in_range
      (recursion_from_All (λ (o : NetId). o.0 < length net.names) net.outputs kept.outputs)

  pub port_names : IsDistinct bytes_eq net.names → IsDistinct bytes_eq (input_names net) → IsDistinct bytes_eq (output_names net) → ArePortNames (network.plain net) (ports_of net)
  port_names differ inputs outputs = record {
    one_each = let n = kept.named in length-take-le net.inputs net.names (omega arith);
    inputs_differ = different_of (input_names net) inputs;
    outputs_differ = subst AreDifferent (sym (port_list net.outputs)) (different_of (output_names net) outputs);
    tied = tied differ;
  }

  named : (q : List ℕ) (outputs : List NetId) → AllByRecursion (λ (o : NetId). o.0 < length net.names) outputs → is_member bytes_eq (map (name_in net) outputs) q ≡ true → is_member bytes_eq net.names q ≡ true
  named q [] all e = cc
  named q (o ∷ outputs) all e = by_test (bytes_eq q (name_in net o)) refl e (named q outputs all.1)
    where
      by_test : (b : Bool) → bytes_eq q (name_in net o) ≡ b → (b || is_member bytes_eq (map (name_in net) outputs) q) ≡ true → (is_member bytes_eq (map (name_in net) outputs) q ≡ true → is_member bytes_eq net.names q ≡ true) → is_member bytes_eq net.names q ≡ true
      by_test false is e rest = rest e
      by_test true is e rest =
          let same = (bytes_eq-Decides q (name_in net o)).0 is in
          let at = name_at o all.0 in
          (is_member-Decides bytes_eq-Decides net.names q).1 (o.0, all.0, get_or_from_slice_get net.names o.0 q q (at ∙ ap Some (sym same)))

  -- there are no more outputs than nets
  pub few_outputs : IsDistinct bytes_eq (output_names net) → length net.outputs ≤ length net.names
  few_outputs outputs =
      let n = length-map net.outputs (name_in net) in
      let le = length-le_from_is_member bytes_laws (output_names net) net.names outputs (λ q. named q net.outputs (recursion_from_All (λ (o : NetId). o.0 < length net.names) net.outputs kept.outputs)) in
      omega arith
