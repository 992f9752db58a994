-- The netlist that listed forms are mapped to has their values and the least arrivals, and that of a network is a mapping of it.
use Rattle.std.proofs.Common.{ℕ, ◌+◌, ◌<◌, ◌≤◌, ◌^◌, ◌≡◌, ◌↔◌, List, [], ◌∷◌, length, map, Option, Some, None, refl, ap, ◌∙◌, subst, arith}
use Rattle.std.proofs.lemmas.Option.{slice_get_within}
use Rattle.std.proofs.lemmas.List.{length-append}
use Rattle.lw_laws.proofs.Lists.{zip_weaker}
use Rattle.lw_facts.proofs.Lists.{index_at}
use Rattle.lw_laws.specs.Modes.{Mode}
use Rattle.lw_laws.specs.Networks.{Network, IsInOrder}
use Rattle.lw_laws.specs.Trees.{Tree}
use Rattle.lw_laws.specs.Forms.{Form}
use Rattle.lw_laws.specs.Signals.{sop_at, signals_of}
use Rattle.lw_laws.specs.Decompositions.{HasTree}
use Rattle.lw_laws.specs.Listings.{Listing, listing_of, IsListed, IsListing}
use Rattle.lw_laws.specs.SignalValues.{IsSoundListing, AreNetForms}
use Rattle.lw_laws.specs.Classes.{class_in}
use Rattle.lw_laws.specs.Numbering.{numbered}
use Rattle.lw_laws.specs.Graphs.{Graph, PairsInOneClass, Unfolds}
use Rattle.lw_laws.specs.Costs.{Cost}
use Rattle.lw_laws.specs.Covers.{Timing, Pattern, ArePatterns, tree_of}
use Rattle.lw_laws.specs.Matches.{choices_of, IsLeastCover}
use Rattle.lw_laws.specs.Choices.{Choices, Labels, HasCost, HaveCosts, IsLeastCost, HaveLabels, HasLabelAtMost, IsPotential}
use Rattle.lw_laws.specs.Choices.HasCost.{by_wire, by_gate}
use Rattle.lw_laws.specs.Choices.HaveCosts.{no_pins, pin}
use Rattle.lw_laws.specs.Rounds.{labels_in}
use Rattle.lw_laws.specs.Laws.{IsCoverProblem, IsAttainedIn}
use Rattle.lw_laws.specs.Delays.{delay_cost}
use Rattle.lw_laws.specs.NumberedForms.{family_of}
use Rattle.lw_laws.specs.Encodings.{Encodes}
use Rattle.lw_laws.specs.Netlists.{Netlist, AreByDepth, CellTruth, HaveCellTruths, AreArrivals}
use Rattle.lw_laws.specs.Extracts.{IsNetOf, class_at, net_classes, HaveLeafLabels}
use Rattle.lw_laws.specs.Mapped.{IsPotentialOf, forms_of, root_class, IsMappedOverForms, IsRootedAtForm}
use Rattle.lw_laws.specs.Headline.{Ports, MapsForms, IsMapping, HasLeastTime, HasLeastArrival, HasNoCoverOf, HasNoCover}
use Rattle.lw_laws.specs.MappedNetlists.{form_classes, HasPorts, IsNetlistOfForms, IsNetlistOf}
use Rattle.lw_laws.proofs.Listed.{occurring_is_listing}
use Rattle.lw_laws.proofs.Sound.{network_is_sound, netlist_of_sops}
use Rattle.lw_laws.proofs.Covering.{cover_costs, cost_covered}
use Rattle.lw_laws.proofs.NetlistValues.{some_arrivals}
use Rattle.lw_laws.proofs.ExtractLaws.{ordered_and_mapped, extracted_arrivals}
use Rattle.lw_laws.proofs.MappedDepths.{extracted_by_depth}
use Rattle.lw_laws.proofs.Mapping.{forms_mapped, sop_occurs, sops_are_forms}
use Rattle.lw_laws.proofs.GraphEncodes.{forms_encode, forms_pairs_once}
use Rattle.lw_laws.proofs.InputLabels.{form_input_label}
use Rattle.lw_laws.proofs.Headline.{has_plain_trees}
use Rattle.lw_laws.proofs.Delays.{cost_of-time}

-- the least costs over covers are those over matches
least_match : (g : Graph) (pats : List Pattern) (cost : Cost) → PairsInOneClass g → ArePatterns cost.pin_counts pats → (c : ℕ) (o : Option ℕ) → IsLeastCover g pats cost c o → IsLeastCost (choices_of g cost.pin_counts pats) cost c o
least_match g pats cost once patterns c (Some d) ((k, is, u, e), low) = (
  subst (HasCost (choices_of g cost.pin_counts pats) cost c) e (cover_costs g once cost pats patterns k c is u),
  λ e h. let w = cost_covered g cost pats h in subst (λ z. d ≤ z) w.costs (low w.by w.is_cover w.unfolds),
)
least_match g pats cost once patterns c None none = λ e h. let w = cost_covered g cost pats h in none w.by w.is_cover w.unfolds

-- least costs are a potential
module _ (M : Choices) (cost : Cost) (labels : Labels) (least : (c : ℕ) → IsLeastCost M cost c (labels c)) where
  at_most : (c d : ℕ) (o : Option ℕ) → labels c ≡ o → IsLeastCost M cost c o → HasCost M cost c d → HasLabelAtMost labels c d
  at_most c d None e is h = absurd (is d h)
  at_most c d (Some l) e (has, low) h = (l, e, low d h)

  cost_of_label : (c l : ℕ) (o : Option ℕ) → labels c ≡ o → IsLeastCost M cost c o → labels c ≡ Some l → HasCost M cost c l
  cost_of_label c l None e is f = cc
  cost_of_label c l (Some d) e (has, low) f = let same : d ≡ l = cc in subst (HasCost M cost c) same has

  costs_of_labels : (ps ls : List ℕ) → HaveLabels labels ps ls → HaveCosts M cost ps ls
  costs_of_labels [] [] a = no_pins
  costs_of_labels [] (l ∷ ls) a = absurd a
  costs_of_labels (p ∷ ps) [] a = absurd a
  costs_of_labels (p ∷ ps) (l ∷ ls) (e, a) = pin (cost_of_label p l (labels p) refl (least p) e) (costs_of_labels ps ls a)

  least_potential : IsPotential M cost labels
  least_potential = record {
    inputs = λ c i is. at_most c (cost.leaf i) (labels c) refl (least c) (by_wire is);
    matches = λ c cell ps ls m a. at_most c (cost.value cell ls) (labels c) refl (least c) (by_gate m (costs_of_labels ps ls a));
  }

-- the least costs over covers are a potential, and costs of covers
pub least_costs_bound : (g : Graph) (pats : List Pattern) (cost : Cost) (labels : List (Option ℕ)) → IsCoverProblem g pats cost → ((c : ℕ) → IsLeastCover g pats cost c (labels_in labels c)) → IsPotentialOf g pats cost labels × IsAttainedIn g pats cost labels
least_costs_bound g pats cost labels is least =
    let over : (c : ℕ) → IsLeastCost (choices_of g cost.pin_counts pats) cost c (labels_in labels c) = λ c. least_match g pats cost is.once is.patterns c (labels_in labels c) (least c) in
    (least_potential (choices_of g cost.pin_counts pats) cost (labels_in labels) over, λ c l e. cost_of_label (choices_of g cost.pin_counts pats) cost (labels_in labels) over c l (labels_in labels c) refl (over c) e)

module _ (mode : Mode) (inputs : ℕ) (o : Listing) (form : ℕ → Form) (sound : IsSoundListing inputs o) (ports : Ports) (pats : List Pattern) (timing : Timing) (cap : ℕ) (n : Netlist) (names : List (List ℕ)) (mapped : Ports) (patterns : ArePatterns (map length timing.delays) pats) (is : IsNetlistOfForms mode inputs o form ports pats timing cap n names mapped) where
  abbrev cost : Cost
  cost = delay_cost timing cap

  abbrev g : Graph
  g = is.graph

  -- each input's class has the input's start as its label
  pub form_leaf_labels : HaveLeafLabels g cost (labels_in is.labels)
  form_leaf_labels c i at = form_input_label mode inputs o g sound is.is_graph pats timing cap patterns i c (labels_in is.labels c) at (is.least c)

  -- the gates of the netlist stand by depth
  pub form_by_depth : AreByDepth n
  form_by_depth =
      extracted_by_depth g cost pats (labels_in is.labels) is.heights is.height (form_classes o form g ports.outputs) is.gates n is.gate_classes is.extracted form_leaf_labels

  rooted : ((c l : ℕ) → labels_in is.labels c ≡ Some l → l < cap) → (f : Form) (k : ℕ) (ds : List ℕ) → AreArrivals timing n ds → IsNetOf g is.gates (class_in o g f) k → IsRootedAtForm o g is.labels n (class_at g is.gates) ds f k
  rooted low f k ds are at =
      let here = index_at (net_classes g is.gates) k (class_in o g f) at in
      let a = is.extracted.inputs in
      let b = is.extracted.one_each in
      let c = length-append g.leaves is.gates in
      let d = slice_get_within (net_classes g is.gates) k (class_in o g f) at in
      record {
        at_form = record { of_netlist = omega arith; at_class = here };
        at_label = ap (labels_in is.labels) here ∙ extracted_arrivals g pats timing cap (labels_in is.labels) is.heights (form_classes o form g ports.outputs) is.gates n ds is.gate_classes is.extracted are form_leaf_labels low (class_in o g f) k at;
      }

  -- the netlist that forms are mapped to has the ports, the forms' values, and the least arrivals
  pub netlist_maps_forms : (net : Network) → net.inputs ≡ inputs → (truth : CellTruth) → AreNetForms net o form → inputs < 2 ^ 32 → HasPorts net ports → HaveCellTruths (map length timing.delays) truth pats → ((c l : ℕ) → labels_in is.labels c ≡ Some l → l < cap) → MapsForms mode o.width o.signals form net ports pats timing truth n mapped
  netlist_maps_forms net same truth forms few has truths low =
      let potential = least_potential (choices_of g (map length timing.delays) pats) cost (labels_in is.labels) (λ c. least_match g pats cost (forms_pairs_once mode inputs o g sound is.is_graph) patterns c (labels_in is.labels c) (is.least c)) in
      let leaves = is.is_graph.written.leaf_count in
      let (ordered, gates_mapped) = ordered_and_mapped g cost pats (labels_in is.labels) is.heights (form_classes o form g ports.outputs) is.gates is.gate_classes n is.extracted in
      let (ds, are) = some_arrivals n ordered timing in
      let over : IsMappedOverForms mode inputs o g pats timing cap is.labels n (class_at g is.gates) = record {
        labelled = record { encodes = forms_encode mode inputs o g sound is.is_graph; few = omega arith; patterns = patterns; potential = potential };
        ordered = ordered;
        mapped = gates_mapped;
      } in
      forms_mapped mode inputs o sound g pats timing cap is.labels n (class_at g is.gates) over net form same forms truth truths ds are ports mapped has (record {
        inputs_are = is.extracted.inputs ∙ leaves;
        input_names = is.input_names;
        outputs = zip_weaker (λ p q. (p.name ≡ q.name) × IsNetOf g is.gates (class_in o g (form p.net)) q.net) (λ p q. (p.name ≡ q.name) × IsRootedAtForm o g is.labels n (class_at g is.gates) ds (form p.net) q.net)
            (λ p q r. (r.0, rooted low (form p.net) q.net ds are r.1)) ports.outputs mapped.outputs is.outputs;
      })

module _ (mode : Mode) (inputs : ℕ) (o : Listing) (g : Graph) (pats : List Pattern) (timing : Timing) (cap : ℕ) (listing : IsListing o) (encodes : Encodes (family_of mode (numbered inputs o)) g) (f : Form) (occ : IsListed o f) where
  form_class_trees : (t : Tree) → Unfolds g t (class_in o g f) ↔ HasTree mode o.width o.signals f t
  form_class_trees t = has_plain_trees mode inputs o g listing encodes f t occ

  -- the least cost at a form's class is its least time
  pub form_least : (d : ℕ) → d < cap → IsLeastCover g pats (delay_cost timing cap) (class_in o g f) (Some d) → HasLeastTime mode o.width o.signals pats timing f d
  form_least d room ((k, is, u, e), low) =
      let t = cost_of-time timing cap k in
      record {
        attained = (k, is, (form_class_trees (tree_of k)).0 u, omega arith);
        least = λ j is_cover tree. let h = low j is_cover ((form_class_trees (tree_of j)).1 tree) in let q = cost_of-time timing cap j in omega arith;
      }

  -- where the class has no cover, the form has none
  pub form_uncovered : IsLeastCover g pats (delay_cost timing cap) (class_in o g f) None → HasNoCoverOf mode o.width o.signals pats timing f
  form_uncovered none k is_cover tree = none k is_cover ((form_class_trees (tree_of k)).1 tree)

-- the same for the sums of products of a network
module _ (mode : Mode) (width : ℕ) (net : Network) (ports : Ports) (pats : List Pattern) (timing : Timing) (cap : ℕ) where
  abbrev sop : ℕ → Form
  sop = sop_at (signals_of width net)

  pub netlist_leaf_labels : (n : Netlist) (names : List (List ℕ)) (mapped : Ports) → 2 ≤ width → ArePatterns (map length timing.delays) pats → (is : IsNetlistOf mode width net ports pats timing cap n names mapped) → HaveLeafLabels is.graph (delay_cost timing cap) (labels_in is.labels)
  netlist_leaf_labels n names mapped wide patterns is =
      form_leaf_labels mode net.inputs (listing_of width net) sop (network_is_sound width wide net) ports pats timing cap n names mapped patterns (netlist_of_sops mode width net ports pats timing cap n names mapped is)

  pub netlist_by_depth : (n : Netlist) (names : List (List ℕ)) (mapped : Ports) → 2 ≤ width → ArePatterns (map length timing.delays) pats → IsNetlistOf mode width net ports pats timing cap n names mapped → AreByDepth n
  netlist_by_depth n names mapped wide patterns is =
      form_by_depth mode net.inputs (listing_of width net) sop (network_is_sound width wide net) ports pats timing cap n names mapped patterns (netlist_of_sops mode width net ports pats timing cap n names mapped is)

  pub netlist_maps : (truth : CellTruth) (n : Netlist) (names : List (List ℕ)) (mapped : Ports) → 2 ≤ width → IsInOrder net → net.inputs < 2 ^ 32 → HasPorts net ports → ArePatterns (map length timing.delays) pats → HaveCellTruths (map length timing.delays) truth pats → (is : IsNetlistOf mode width net ports pats timing cap n names mapped) → ((c l : ℕ) → labels_in is.labels c ≡ Some l → l < cap) → IsMapping mode width net ports pats timing truth n mapped
  netlist_maps truth n names mapped wide order few has patterns truths is low =
      netlist_maps_forms mode net.inputs (listing_of width net) sop (network_is_sound width wide net) ports pats timing cap n names mapped patterns (netlist_of_sops mode width net ports pats timing cap n names mapped is) net refl truth (sops_are_forms width wide net order) few has truths low

module _ (mode : Mode) (width : ℕ) (net : Network) (g : Graph) (pats : List Pattern) (timing : Timing) (cap : ℕ) (wide : 2 ≤ width) (encodes : Encodes (family_of mode (forms_of width net)) g) (s : ℕ) (lt : s < net.inputs + length net.nodes) where
  pub root_least : (d : ℕ) → d < cap → IsLeastCover g pats (delay_cost timing cap) (root_class width net g s) (Some d) → HasLeastArrival mode width net pats timing s d
  root_least d =
      form_least mode net.inputs (listing_of width net) g pats timing cap (occurring_is_listing width wide net) encodes (sop_at (signals_of width net) s) (sop_occurs width wide net s lt) d

  pub root_uncovered : IsLeastCover g pats (delay_cost timing cap) (root_class width net g s) None → HasNoCover mode width net pats timing s
  root_uncovered =
      form_uncovered mode net.inputs (listing_of width net) g pats timing cap (occurring_is_listing width wide net) encodes (sop_at (signals_of width net) s) (sop_occurs width wide net s lt)
