-- A cover of a network's outputs by least marks is the netlist that the network is mapped to.
use Rattle.std.proofs.Common.{ℕ, ◌≡◌, List, ◌++◌, map, length, take, Option, Some, ap, ap₂, sym, ◌∙◌, subst}
use Rattle.std.proofs.lemmas.List.{take_at}
use Rattle.lw_laws.specs.Modes.{Mode}
use Rattle.lw_laws.specs.Networks.{Network}
use Rattle.lw_laws.specs.Listings.{listing_of}
use Rattle.lw_laws.specs.Graphs.{Graph}
use Rattle.lw_laws.specs.Covers.{Timing, Pattern}
use Rattle.lw_laws.specs.Classes.{IsGraphOf}
use Rattle.lw_laws.specs.Choices.{IsHeight}
use Rattle.lw_laws.specs.Marks.{heights_of}
use Rattle.lw_laws.specs.Matches.{choices_of}
use Rattle.lw_laws.specs.Rounds.{labels_in}
use Rattle.lw_laws.specs.Delays.{delay_cost}
use Rattle.lw_laws.specs.Extracts.{AreGateClasses}
use Rattle.lw_laws.specs.Names.{gate_names, free_names, net_names}
use Rattle.lw_laws.specs.Mapped.{root_class}
use Rattle.lw_laws.specs.Headline.{Port as PlainPort}
use Rattle.lw_laws.specs.MappedNetlists.{root_classes, IsNetlistOf}
use Rattle.lw_cost.specs.declared.mark.Mark.{Mark}
use Rattle.lw_cost.specs.Labels.{costs_of, AreLeastMarks}
use Rattle.lw_cost.proofs.MarksAsLabels.{mark_of_label}
use Rattle.lw_netlist.specs.declared.gate.Port.{Port}
use Rattle.lw_netlist.specs.Plain.{plain, mapped_ports}
use Rattle.lw_extract.specs.declared.ports.Ports.{Ports}
use Rattle.lw_extract.specs.declared.ports.Cover.{Cover}
use Rattle.lw_extract.specs.Choosing.{heights}
use Rattle.lw_extract.specs.Covers.{IsExtractedCover}
use Rattle.lw_extract.proofs.PortLists.{port_name, zip_outputs}
use Rattle.lw_pool.specs.Numbers.{numbers}

module _ (mode : Mode) (width : ℕ) (net : Network) (g : Graph) (pats : List Pattern) (timing : Timing) (cap : ℕ) (marks : List (Option Mark)) (ports : Ports) (cover : Cover) (inputs : List (List ℕ)) (outputs : List PlainPort) where
  -- the height of a labelled class
  pub height_is : AreLeastMarks g (delay_cost timing cap) pats marks → (c l : ℕ) → labels_in (costs_of marks) c ≡ Some l → IsHeight (choices_of g (map length timing.delays) pats) (delay_cost timing cap) (labels_in (costs_of marks)) c (heights marks c)
  height_is are c l e =
      let (m, at, cost) = mark_of_label marks c l e in
      let same : m.height ≡ heights marks c = sym (ap (λ o. heights_of (λ d. o) c) at) in
      subst (λ h. IsHeight (choices_of g (map length timing.delays) pats) (delay_cost timing cap) (labels_in (costs_of marks)) c h) same (are.heights c m at)

  unfoldable pub cover_is_netlist : IsGraphOf mode net.inputs (listing_of width net) g → AreLeastMarks g (delay_cost timing cap) pats marks → IsExtractedCover g (delay_cost timing cap) pats marks ports cover → length inputs ≡ net.inputs → ports.inputs ≡ inputs → ports.outputs ≡ map port_name outputs → numbers ports.roots ≡ root_classes width net g outputs → IsNetlistOf mode width net (record { inputs = inputs; outputs = outputs }) pats timing cap (plain cover.netlist) cover.netlist.names (mapped_ports cover.netlist)
  cover_is_netlist graph_is are is long input_names output_names roots =
      let cost = delay_cost timing cap in
      let names : cover.netlist.names ≡ net_names inputs (map port_name outputs) (root_classes width net g outputs) (numbers cover.classes) =
      is.names ∙ (ap₂ (λ (xs ys : List (List ℕ)). net_names xs ys (numbers ports.roots) (numbers cover.classes)) input_names output_names ∙ ap (λ (cs : List ℕ). net_names inputs (map port_name outputs) cs (numbers cover.classes)) roots) in
      let count : cover.netlist.inputs ≡ length inputs = is.extracted.inputs ∙ (graph_is.written.leaf_count ∙ sym long) in
      record {
        graph = g;
        is_graph = graph_is;
        labels = costs_of marks;
        least = are.least;
        heights = heights marks;
        height = height_is are;
        gates = numbers cover.classes;
        gate_classes = subst (λ cs. AreGateClasses g cost pats (labels_in (costs_of marks)) (heights marks) cs (numbers cover.classes)) roots is.gate_classes;
        extracted = is.extracted;
        input_names = ap (λ (xs : List (List ℕ)). take cover.netlist.inputs xs) names ∙ take_at inputs (gate_names (map port_name outputs) (root_classes width net g outputs) (free_names (inputs ++ map port_name outputs) (length (numbers cover.classes))) (numbers cover.classes)) cover.netlist.inputs (sym count);
        outputs = zip_outputs width net g (numbers cover.classes) outputs ports.roots cover.netlist.outputs roots (is.output_names ∙ output_names) is.outputs;
        names_are = names;
      }
