-- A cover of listed forms by least marks is the netlist that they are mapped to.
use Rattle.std.proofs.Common.{ℕ, ◌≡◌, List, [], ◌∷◌, ◌++◌, map, length, take, Option, Some, slice_get, refl, ap, ap₂, sym, ◌∙◌, subst, arith}
use Rattle.std.specs.List.{AllZip}
use Rattle.std.proofs.lemmas.List.{take_at}
use Rattle.lw_pool.specs.declared.id.ClassId.{ClassId}
use Rattle.lw_pool.specs.Numbers.{numbers}
use Rattle.lw_laws.specs.Modes.{Mode}
use Rattle.lw_laws.specs.Forms.{Form}
use Rattle.lw_laws.specs.Listings.{Listing}
use Rattle.lw_laws.specs.SignalValues.{IsSoundListing}
use Rattle.lw_laws.specs.Graphs.{Graph}
use Rattle.lw_laws.specs.Covers.{ArePatterns, Pattern, Timing, tree_of}
use Rattle.lw_laws.specs.Covers.Cover.{wire}
use Rattle.lw_laws.specs.Classes.{IsGraphOf, class_in}
use Rattle.lw_laws.specs.Choices.{IsHeight}
use Rattle.lw_laws.specs.Marks.{heights_of}
use Rattle.lw_laws.specs.Matches.{IsLeastCover, choices_of}
use Rattle.lw_laws.specs.Rounds.{labels_in}
use Rattle.lw_laws.specs.Delays.{delay_cost}
use Rattle.lw_laws.specs.Extracts.{AreGateClasses, IsNetOf}
use Rattle.lw_laws.specs.Names.{free_names, gate_names, net_names}
use Rattle.lw_laws.specs.Headline.{Port as PlainPort}
use Rattle.lw_laws.specs.MappedNetlists.{IsNetlistOfForms, form_classes}
use Rattle.lw_laws.proofs.Delays.{cost_of-time}
use Rattle.lw_laws.proofs.InputLabels.{form_input_leaf, start_before}
use Rattle.lw_cost.specs.declared.mark.Mark.{Mark}
use Rattle.lw_cost.specs.Labels.{AreLeastMarks, costs_of}
use Rattle.lw_cost.proofs.MarksAsLabels.{mark_of_label}
use Rattle.lw_netlist.specs.declared.gate.Port.{Port}
use Rattle.lw_netlist.specs.Plain.{mapped_ports, plain, plain_port}
use Rattle.lw_extract.specs.declared.ports.Ports.{Ports}
use Rattle.lw_extract.specs.declared.ports.Cover.{Cover}
use Rattle.lw_extract.specs.Choosing.{heights}
use Rattle.lw_extract.specs.Covers.{IsExtractedCover}
use Rattle.lw_extract.proofs.PortLists.{port_name}

-- no cover of an input's class is earlier than the input
pub start_is_least : (mode : Mode) (count : ℕ) (o : Listing) (g : Graph) → IsSoundListing count o → IsGraphOf mode count o g → (pats : List Pattern) (timing : Timing) (cap : ℕ) → ArePatterns (map length timing.delays) pats → (i c : ℕ) → slice_get g.leaves i ≡ Some c → IsLeastCover g pats (delay_cost timing cap) c (Some ((delay_cost timing cap).leaf i))
start_is_least mode count o g sound is pats timing cap patterns i c at = (
  (wire i, tt, at, refl),
  λ k is_cover u.
      let after = start_before timing pats patterns i k is_cover (form_input_leaf mode count o g sound is i c (tree_of k) at u) in
      let cut = cost_of-time timing cap k in
      omega (arith, after, cut),
)

-- the outputs have the names and the nets
pub zip_outputs : (class : PlainPort → ℕ) (g : Graph) (gates : List ℕ) (outputs : List PlainPort) (roots : List ClassId) (mapped : List Port) → numbers roots ≡ map class outputs → map (λ (port : Port). port.name) mapped ≡ map port_name outputs → AllZip (λ (root : ClassId) (port : Port). IsNetOf g gates root.0 port.net.0) roots mapped → AllZip (λ p q. (p.name ≡ q.name) × IsNetOf g gates (class p) q.net) outputs (map plain_port mapped)
zip_outputs class g gates [] roots [] classes names nets = tt
zip_outputs class g gates [] roots (q ∷ mapped) classes names nets = cc
zip_outputs class g gates (p ∷ outputs) roots [] classes names nets = cc
zip_outputs class g gates (p ∷ outputs) [] (q ∷ mapped) classes names nets = cc
zip_outputs class g gates (p ∷ outputs) (root ∷ roots) (q ∷ mapped) classes names (at, nets) =
    let c : root.0 ≡ class p = cc in
    let cs : numbers roots ≡ map class outputs = cc in
    let n : p.name ≡ q.name = cc in
    let ns : map (λ (port : Port). port.name) mapped ≡ map port_name outputs = cc in
    ((n, subst (λ d. IsNetOf g gates d q.net.0) c at), zip_outputs class g gates outputs roots mapped cs ns nets)

module _ (mode : Mode) (count : ℕ) (o : Listing) (form : ℕ → Form) (g : Graph) (pats : List Pattern) (timing : Timing) (cap : ℕ) (marks : List (Option Mark)) (ports : Ports) (cover : Cover) (inputs : List (List ℕ)) (outputs : List PlainPort) where
  -- the height of a labelled class
  pub height_is : AreLeastMarks g (delay_cost timing cap) pats marks → (c l : ℕ) → labels_in (costs_of marks) c ≡ Some l → IsHeight (choices_of g (map length timing.delays) pats) (delay_cost timing cap) (labels_in (costs_of marks)) c (heights marks c)
  height_is are c l e =
      let (m, at, cost) = mark_of_label marks c l e in
      let same : m.height ≡ heights marks c = sym (ap (λ o. heights_of (λ d. o) c) at) in
      subst (λ h. IsHeight (choices_of g (map length timing.delays) pats) (delay_cost timing cap) (labels_in (costs_of marks)) c h) same (are.heights c m at)

  unfoldable pub cover_is_netlist : IsGraphOf mode count o g → AreLeastMarks g (delay_cost timing cap) pats marks → IsExtractedCover g (delay_cost timing cap) pats marks ports cover → length inputs ≡ count → ports.inputs ≡ inputs → ports.outputs ≡ map port_name outputs → numbers ports.roots ≡ form_classes o form g outputs → IsNetlistOfForms mode count o form (record { inputs = inputs; outputs = outputs }) pats timing cap (plain cover.netlist) cover.netlist.names (mapped_ports cover.netlist)
  cover_is_netlist graph_is are is long input_names output_names roots =
      let cost = delay_cost timing cap in
      let names : cover.netlist.names ≡ net_names inputs (map port_name outputs) (form_classes o form g outputs) (numbers cover.classes) =
      is.names ∙ (ap₂ (λ (xs ys : List (List ℕ)). net_names xs ys (numbers ports.roots) (numbers cover.classes)) input_names output_names ∙ ap (λ (cs : List ℕ). net_names inputs (map port_name outputs) cs (numbers cover.classes)) roots) in
      let leaves : cover.netlist.inputs ≡ length inputs = is.extracted.inputs ∙ (graph_is.written.leaf_count ∙ sym long) in
      record {
        graph = g;
        is_graph = graph_is;
        labels = costs_of marks;
        least = are.least;
        heights = heights marks;
        height = height_is are;
        gates = numbers cover.classes;
        gate_classes = subst (λ cs. AreGateClasses g cost pats (labels_in (costs_of marks)) (heights marks) cs (numbers cover.classes)) roots is.gate_classes;
        extracted = is.extracted;
        input_names = ap (λ (xs : List (List ℕ)). take cover.netlist.inputs xs) names ∙ take_at inputs (gate_names (map port_name outputs) (form_classes o form g outputs) (free_names (inputs ++ map port_name outputs) (length (numbers cover.classes))) (numbers cover.classes)) cover.netlist.inputs (sym leaves);
        outputs = zip_outputs (λ p. class_in o g (form p.net)) g (numbers cover.classes) outputs ports.roots cover.netlist.outputs roots (is.output_names ∙ output_names) is.outputs;
        names_are = names;
      }
