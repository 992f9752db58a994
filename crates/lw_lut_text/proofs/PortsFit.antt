-- The ports of a network fit the graph of its forms.
use Rattle.std.proofs.Common.{◌≡◌, ◌+◌, ◌^◌, ◌<◌, ◌≤◌, ℕ, List, length, map, All, Contains, Option, Some, slice_get, sym, ap, ◌∙◌, subst, arith}
use Rattle.std.proofs.lemmas.List.{length-map}
use Rattle.std.proofs.lemmas.List.Elements.{All-from_recursion}
use Rattle.std.proofs.lemmas.Option.{slice_get_within}
use Rattle.lw_facts.proofs.Lists.{contained_in_map, contains_map}
use Rattle.lw_laws.proofs.Lists.{all_contains, contains_all}
use Rattle.lw_laws.proofs.MappedNames.{input_sop}
use Rattle.lw_laws.proofs.Mapping.{sop_occurs}
use Rattle.lw_laws.proofs.Numbers.{slice_get_map, slice_get_map_back}
use Rattle.lw_laws.specs.Classes.{IsGraphOf, class_in}
use Rattle.lw_laws.specs.Listings.{IsListed, listing_of}
use Rattle.lw_laws.specs.Extracts.{AreDistinctLeaves}
use Rattle.lw_laws.specs.Forms.{Form}
use Rattle.lw_laws.specs.Graphs.{Graph}
use Rattle.lw_laws.specs.Headline.{Port, Ports}
use Rattle.lw_laws.specs.Mapped.{root_class}
use Rattle.lw_laws.specs.MappedNetlists.{ArePortNames, HasPorts, root_classes}
use Rattle.lw_laws.specs.Modes.{Mode}
use Rattle.lw_laws.specs.Names.{AreDifferent}
use Rattle.lw_laws.specs.Networks.{Network}
use Rattle.lw_laws.specs.Signals.{sop_at, signals_of}
use Rattle.lw_pool.specs.declared.id.ClassId.{ClassId}
use Rattle.lw_lut.specs.Covers.{IsLeastDepth}
use Rattle.lw_lut.specs.Depths.{DepthLists, AreLeastDepths}
use Rattle.lw_lut_text.specs.Meaning.{ArePortsApart, ArePortsOf}
use Rattle.lw_lut.specs.Nets.{AreFit}
use Rattle.lw_lut.specs.Searches.{IsKnown, depth_in}
use Rattle.lw_lut.specs.declared.ports.TablePorts.{TablePorts}
use Rattle.lw_lut.proofs.Numbers.{long}

module _ (mode : Mode) (width : ℕ) (from : Network) (outer : Ports) (g : Graph) (ports : TablePorts) (wide : 2 ≤ width) (is : IsGraphOf mode from.inputs (listing_of width from) g) (of : ArePortsOf width from outer g ports) where
  pub ports_fit : ArePortNames from outer → AreDistinctLeaves g → length ports.outputs < 2 ^ 32 → All (λ (root : ClassId). root.0 < length g.pairs) ports.roots → AreFit g ports
  ports_fit named differ few low = record {
    one_name =
        let a = ap (λ names. length {A = List ℕ} names) of.inputs in
        let b = named.one_each in
        let c = is.written.leaf_count in
        omega (arith, a, b, c);
    one_root =
        let a = ap (λ names. length {A = List ℕ} names) of.outputs in
        let b = length-map outer.outputs (λ (p : Port). p.name) in
        let c = ap (λ cs. length {A = ℕ} cs) of.roots in
        let d = length-map outer.outputs (λ (p : Port). root_class width from g p.net) in
        let e = long ports.roots in
        omega (arith, a, b, c, d, e);
    few_outputs = few;
    in_range = low;
    apart = differ;
  }

  -- an output with an input's name has the input's class
  tied : ArePortNames from outer → (i k : ℕ) (name : List ℕ) → slice_get outer.inputs i ≡ Some name → slice_get (map (λ (p : Port). p.name) outer.outputs) k ≡ Some name → slice_get (root_classes width from g outer.outputs) k ≡ slice_get g.leaves i
  tied named i k name at out =
      let (p, here, same) = slice_get_map_back (λ (p : Port). p.name) outer.outputs k name out in
      let lt = slice_get_within outer.inputs i name at in
      let count = named.one_each in
      let inside : i < from.inputs = omega (arith, lt, count) in
      let place = named.tied i k p here (at ∙ ap Some (sym same)) in
      slice_get_map (λ (p : Port). root_class width from g p.net) outer.outputs k p here
      ∙ (ap Some (ap (root_class width from g) place ∙ ap (λ f. class_in (listing_of width from) g f) (input_sop width from i inside))
      ∙ sym (is.leaves i inside))

  pub ports_apart : ArePortNames from outer → ArePortsApart g ports
  ports_apart named = record {
    inputs = subst AreDifferent (sym of.inputs) named.inputs_differ;
    outputs = subst AreDifferent (sym of.outputs) named.outputs_differ;
    tied = λ i k name at out.
        ap (λ cs. slice_get {X = ℕ} cs k) of.roots
        ∙ tied named i k name (subst (λ names. slice_get names i ≡ Some name) of.inputs at) (subst (λ names. slice_get names k ≡ Some name) of.outputs out);
  }

  pub roots_known : (most : ℕ) (lists : DepthLists) → HasPorts from outer → AreLeastDepths g most lists → ((f : Form) (o : Option ℕ) → IsListed (listing_of width from) f → IsLeastDepth g most (class_in (listing_of width from) g f) o → (d : ℕ) × (o ≡ Some d)) → All (λ (root : ClassId). IsKnown lists.depths root.0) ports.roots
  roots_known most lists has least some = All-from_recursion (λ (root : ClassId). IsKnown lists.depths root.0) ports.roots (contains_all (λ (root : ClassId). IsKnown lists.depths root.0) ports.roots (λ root c.
      let (p, k, e) = contained_in_map (λ (p : Port). root_class width from g p.net) outer.outputs root.0 (subst (λ cs. Contains cs root.0) of.roots (contains_map (λ (r : ClassId). r.0) ports.roots root c)) in
      subst (IsKnown lists.depths) e (of_net p.net (all_contains (λ (p : Port). p.net < from.inputs + length from.nodes) outer.outputs p has k))))
    where
      of_net : (r : ℕ) → r < from.inputs + length from.nodes → IsKnown lists.depths (root_class width from g r)
      of_net r lt = some (sop_at (signals_of width from) r) (depth_in lists.depths (root_class width from g r)) (sop_occurs width wide from r lt) (least.least (root_class width from g r))
