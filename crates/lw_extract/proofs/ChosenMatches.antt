-- The chosen matches make the netlist that the labels give.
use Rattle.std.proofs.Common.{ℕ, ◌<◌, ◌≤◌, ◌≡◌, ◌⊎◌, inl, inr, List, length, map, All, Option, Some, slice_get, refl, ap, sym, ◌∙◌, subst, arith}
use Rattle.std.specs.List.{AllZip, AllByRecursion}
use Rattle.std.proofs.lemmas.List.{length-map}
use Rattle.lw_facts.proofs.Lists.{get_left, get_right, some_within, at_contained}
use Rattle.lw_pool.specs.declared.id.ClassId.{ClassId}
use Rattle.lw_pool.specs.Numbers.{numbers}
use Rattle.lw_laws.specs.Graphs.{Graph}
use Rattle.lw_laws.specs.Costs.{Cost}
use Rattle.lw_laws.specs.Covers.{Pattern}
use Rattle.lw_laws.specs.Netlists as laws
use Rattle.lw_laws.specs.Extracts.{Match, IsChosen, IsMatchBy, IsNetOf, AreGateClasses, IsExtracted}
use Rattle.lw_laws.specs.Extracts.IsNeeded.{by_root}
use Rattle.lw_laws.specs.MatchLists.{Gated, gated_classes, AreGatesApart, HasNetBefore, AreMatchesInOrder}
use Rattle.lw_laws.proofs.ExtractLaws.{gates_apart, chosen_before, needed_net}
use Rattle.lw_laws.proofs.Numbers.{slice_get_map, slice_get_map_back}
use Rattle.lw_cost.specs.declared.mark.Mark.{Mark}
use Rattle.lw_cost.specs.Values.{plain_match}
use Rattle.lw_cost.specs.Labels.{cost_in}
use Rattle.lw_netlist.specs.Plain.{plain}
use Rattle.lw_extract.specs.declared.choosing.Chosen.{Chosen}
use Rattle.lw_extract.specs.declared.ports.Ports.{Ports}
use Rattle.lw_extract.specs.declared.ports.Cover.{Cover}
use Rattle.lw_extract.specs.Choosing.{labels, heights, chosen_classes, plain_chosen, plain_matches, AreChosen}
use Rattle.lw_extract.specs.Covers.{AreFit, IsExtractedCover}
use Rattle.lw_extract.specs.Assembling.{CanAssemble, IsAssembled}
use Rattle.lw_extract.proofs.Assembly.{classes_same}
use Rattle.lw_extract.proofs.Places.{all_places, place_beside}

module _ (g : Graph) (cost : Cost) (pats : List Pattern) (marks : List (Option Mark)) (ports : Ports) (chosen : List Chosen) (are : AreChosen g cost pats marks ports.roots chosen) where
  class_of : (j : ℕ) (x : Chosen) → slice_get chosen j ≡ Some x → slice_get (chosen_classes chosen) j ≡ Some x.class.0
  class_of j x at = slice_get_map (λ (y : Chosen). y.class.0) chosen j x at

  labelled : (j : ℕ) (x : Chosen) → slice_get chosen j ≡ Some x → x.class.0 < length marks
  labelled j x at =
      let (p, is) = are.each j x at in
      let inside = some_within (map cost_in marks) x.class.0 (cost.value p.cell is.supports.pin_labels) is.supports.value in
      let same = length-map marks cost_in in
      omega arith

  -- they are matches in order
  pub chosen_matches : AreMatchesInOrder g cost.pin_counts pats (plain_matches chosen)
  chosen_matches = record {
    apart = subst (AreGatesApart g) (sym (classes_same chosen)) (gates_apart g cost pats (labels marks) (heights marks) (numbers ports.roots) (chosen_classes chosen) are.gate_classes);
    matches = λ j y at. match_of j y (slice_get_map_back plain_chosen chosen j y at);
    before = λ j y at. before_of j y (slice_get_map_back plain_chosen chosen j y at);
  }
    where
      match_of : (j : ℕ) (y : Gated) → (x : Chosen) × (slice_get chosen j ≡ Some x) × (plain_chosen x ≡ y) → (p : Pattern) × IsMatchBy g cost.pin_counts pats y.class y.found p
      match_of j y (x, here, same) = let (p, is) = are.each j x here in (p, subst (λ (z : Gated). IsMatchBy g cost.pin_counts pats z.class z.found p) same is.supports.matches)

      before_of : (j : ℕ) (y : Gated) → (x : Chosen) × (slice_get chosen j ≡ Some x) × (plain_chosen x ≡ y) → AllByRecursion (HasNetBefore g (gated_classes (plain_matches chosen)) j) y.found.pins
      before_of j y (x, here, same) =
          let (p, is) = are.each j x here in
          let lower = chosen_before g cost pats (labels marks) (heights marks) (numbers ports.roots) (chosen_classes chosen) are.gate_classes j x.class.0 (plain_match x.found) p (class_of j x here) is in
          subst (λ (z : Gated). AllByRecursion (HasNetBefore g (gated_classes (plain_matches chosen)) j) z.found.pins) same
          (subst (λ cs. AllByRecursion (HasNetBefore g cs j) (plain_match x.found).pins) (sym (classes_same chosen)) lower)

  pub can_assemble : AreFit g ports → length marks ≡ length g.pairs → CanAssemble g pats ports chosen
  can_assemble fit one_each = record {
    fit = fit;
    pin_counts = cost.pin_counts;
    matches = chosen_matches;
    within = all_places (λ (x : Chosen). x.class.0 < length g.pairs) chosen (λ j x at. let below = labelled j x at in omega arith);
    roots = all_places (λ (c : ClassId). (net : ℕ) × IsNetOf g (chosen_classes chosen) c.0 net) ports.roots (λ k q at. needed_net g cost pats (labels marks) (heights marks) (numbers ports.roots) (chosen_classes chosen) are.gate_classes q.0 (by_root (at_contained (numbers ports.roots) k q.0 (slice_get_map (λ (c : ClassId). c.0) ports.roots k q at))));
  }

  pub extracted_cover : (cover : Cover) → IsAssembled g pats ports chosen cover → IsExtractedCover g cost pats marks ports cover
  extracted_cover cover is = record {
    gate_classes = subst (λ cs. AreGateClasses g cost pats (labels marks) (heights marks) (numbers ports.roots) cs) (sym is.classes) are.gate_classes;
    extracted = subst (λ cs. IsExtracted g cost pats (labels marks) (heights marks) cs (plain cover.netlist)) (sym is.classes) extracted;
    model = is.model;
    names = is.names;
    output_names = is.output_names;
    outputs = is.outputs;
  }
    where
      extracted : IsExtracted g cost pats (labels marks) (heights marks) (chosen_classes chosen) (plain cover.netlist)
      extracted = record {
        inputs = is.made.inputs;
        one_each = is.made.one_each ∙ (length-map chosen plain_chosen ∙ sym (length-map chosen (λ (x : Chosen). x.class.0)));
        chosen = λ j gt at. of_gate j gt at (place_beside (plain cover.netlist).gates chosen j gt (is.made.one_each ∙ length-map chosen plain_chosen) at);
      }
        where
          of_gate : (j : ℕ) (gt : laws.Gate) → slice_get (plain cover.netlist).gates j ≡ Some gt → (x : Chosen) × (slice_get chosen j ≡ Some x) → (c : ℕ) × (m : Match) × (p : Pattern) × (slice_get (chosen_classes chosen) j ≡ Some c) × IsChosen g cost pats (labels marks) (heights marks) c m p × (gt.cell ≡ p.cell) × AllZip (λ q net. IsNetOf g (chosen_classes chosen) q net) m.pins gt.pins
          of_gate j gt at (x, here) =
              let (p, choice) = are.each j x here in
              let of = is.made.gates j (plain_chosen x) gt (slice_get_map plain_chosen chosen j x here) at in
              (x.class.0, plain_match x.found, p, class_of j x here, choice, of.cell p choice.supports.matches.listed, subst (λ cs. AllZip (λ q net. IsNetOf g cs q net) (plain_match x.found).pins gt.pins) (classes_same chosen) of.pins)
