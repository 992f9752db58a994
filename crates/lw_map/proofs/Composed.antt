-- What the layers give one after another is what the cells and the network come to.
use Rattle.std.proofs.Common.{ℕ, ◌<◌, ◌≤◌, ◌≡◌, List, [], ◌∷◌, map, length, Option, Some, None, option_map, slice_get, slice_index_or, refl, ap, sym, ◌∙◌, subst, arith}
use Rattle.std.specs.List.{IsDistinct}
use Rattle.std.specs.Prelude.{All}
use Rattle.std.specs.Str.{bytes_eq}
use Rattle.std.proofs.lemmas.List.{length-map, length-take-le}
use Rattle.std.proofs.lemmas.Option.{slice_get_within}
use Rattle.lw_pool.specs.declared.id.ClassId.{ClassId}
use Rattle.lw_pool.specs.declared.id.NetId.{NetId}
use Rattle.lw_fixed.specs.declared.micro.Micro.{Micro}
use Rattle.lw_laws.specs.Graphs.{Unfolds, most_classes}
use Rattle.lw_laws.specs.Signals.{sop_at, signals_of}
use Rattle.lw_laws.specs.Covers.{Pattern, ArePatterns, tree_of}
use Rattle.lw_laws.specs.Matches.{IsLeastCover}
use Rattle.lw_laws.specs.Rounds.{labels_in}
use Rattle.lw_laws.specs.Mapped.{root_class}
use Rattle.lw_laws.specs.Marks.{Mark as PlainMark}
use Rattle.lw_laws.specs.Headline.{Port as PlainPort}
use Rattle.lw_laws.proofs.Mapping.{sop_occurs}
use Rattle.lw_laws.proofs.GraphEncodes.{graph_trees}
use Rattle.lw_net.specs.Networks.{NetworkParts, IsNetwork, name_in, input_names, output_names}
use Rattle.lw_net.specs.Plain as network
use Rattle.lw_genlib.specs.Cells.{CellParts}
use Rattle.lw_genlib.specs.Tables.{delays_of_cells, timing_of}
use Rattle.lw_pattern.specs.Libraries.{library_patterns}
use Rattle.lw_cost.specs.declared.mark.Mark.{Mark}
use Rattle.lw_cost.specs.Values.{plain_mark}
use Rattle.lw_label.specs.Delays.{most_time, time_cost}
use Rattle.lw_cost.specs.Labels.{cost_in, costs_of, AreLeastMarks}
use Rattle.lw_cost.proofs.MarksAsLabels.{label_at}
use Rattle.lw_netlist.specs.Netlists.{IsNetlist}
use Rattle.lw_netlist.specs.Plain.{plain_gate, plain as plain_netlist}
use Rattle.lw_extract.specs.declared.ports.Ports.{Ports}
use Rattle.lw_extract.specs.declared.ports.Cover.{Cover as NetlistCover}
use Rattle.lw_extract.specs.Choosing.{heights}
use Rattle.lw_extract.specs.Covers.{AreFit, IsFirstUncovered, IsExtractedCover}
use Rattle.lw_map.specs.declared.choices.Choices.{Choices}
use Rattle.lw_map.specs.Options.{Options, plain_options}
use Rattle.lw_map.specs.Mapped.{IsCovered, IsUncovered, LacksCover}
use Rattle.lw_map.specs.Choices.{AreChoicesOf}
use Rattle.lw_map.specs.Ports.{ArePortsOf}
use Rattle.lw_map.specs.Mappings.{IsMappingOf}
use Rattle.lw_map.specs.Labelled.{AreStepsBy}
use Rattle.lw_map.specs.declared.labelling.Labeller.{Labeller}
use Rattle.lw_extract.proofs.PortLists.{port_name}
use Rattle.lw_map.proofs.CoverNetlists.{cover_is_netlist}
use Rattle.lw_map.proofs.GateCount.{few_gates}
use Rattle.lw_map.proofs.Leaves.{start_is_least}
use Rattle.lw_map.proofs.PortNames.{few_outputs, in_range, net_in_range, output_at, root_at}
use Rattle.lw_pool.specs.Numbers.{numbers}
use Rattle.lw_net.specs.Ports.{output_port}

pub port_names : (net : NetworkParts) (outputs : List NetId) → map (name_in net) outputs ≡ map port_name (map (output_port net) outputs)
port_names net [] = refl
port_names net (o ∷ outputs) = ap (λ (names : List (List ℕ)). name_in net o ∷ names) (port_names net outputs)

-- the start of an input is the least time of the input's class
pub leaves_least : (net : NetworkParts) (starts : List Micro) (c : Choices) → AreChoicesOf net c → (cells : List CellParts) (pats : List Pattern) → pats ≡ library_patterns cells → ArePatterns (map length (delays_of_cells cells)) (library_patterns cells) → (i k : ℕ) → slice_get c.graph.leaves i ≡ Some k → IsLeastCover c.graph pats (time_cost cells starts) k (Some ((time_cost cells starts).leaf i))
leaves_least net starts c are cells pats pats_are patterns i k at =
    subst (λ ps. IsLeastCover c.graph ps (time_cost cells starts) k (Some ((time_cost cells starts).leaf i))) (sym pats_are) (start_is_least (plain_options c.options).mode (plain_options c.options).width (network.plain net) c.graph are.wide.least are.graph (library_patterns cells) (timing_of cells starts) most_time patterns i k at)

-- the choices and the ports of a network
module _ (net : NetworkParts) (starts : List Micro) (c : Choices) (ports : Ports) (kept : IsNetwork net) (are : AreChoicesOf net c) (named : ArePortsOf net c ports) where
  abbrev options : Options
  options = plain_options c.options

  some_names : length (input_names net) ≡ net.inputs
  some_names = let n = kept.named in length-take-le net.inputs net.names (omega arith)

  roots_of : numbers ports.roots ≡ map (λ (p : PlainPort). root_class options.width (network.plain net) c.graph p.net) (map (output_port net) net.outputs)
  roots_of = ap numbers named.roots ∙ are.roots

  pub ports_fit : IsDistinct bytes_eq (output_names net) → AreFit c.graph ports
  ports_fit outputs_differ =
      let leaves = are.graph.written.leaf_count in
      let n = kept.named in
      let m = kept.few in
      let low = few_outputs net kept outputs_differ in
      let few = are.few in
      let outputs : length ports.outputs ≡ length net.outputs = ap length named.outputs ∙ length-map net.outputs (name_in net) in
      let ports_count : length (map (output_port net) net.outputs) ≡ length net.outputs = length-map net.outputs (output_port net) in
      let roots : length ports.roots ≡ length net.outputs = sym (length-map ports.roots (λ (k : ClassId). k.0)) ∙ (ap length roots_of ∙ (length-map (map (output_port net) net.outputs) (λ (p : PlainPort). root_class options.width (network.plain net) c.graph p.net) ∙ ports_count)) in
      record {
        few = few;
        few_inputs = omega arith;
        few_outputs = omega arith;
        one_name = ap length named.inputs ∙ (some_names ∙ sym leaves);
        one_root = roots ∙ sym outputs;
        in_range = subst (λ (roots : List ClassId). All (λ (root : ClassId). root.0 < length c.graph.pairs) roots) (sym named.roots) are.in_range;
      }

  module _ (cells : List CellParts) (pats : List Pattern) (marks : List (Option Mark)) (pats_are : pats ≡ library_patterns cells) (least : AreLeastMarks c.graph (time_cost cells starts) pats marks) where
    own_least : AreLeastMarks c.graph (time_cost cells starts) (library_patterns cells) marks
    own_least = subst (λ ps. AreLeastMarks c.graph (time_cost cells starts) ps marks) pats_are least

    pub cover_maps : (labeller : Labeller) (steps : Option ℕ) → AreStepsBy labeller c.graph pats (labels_in (costs_of marks)) steps → (cover : NetlistCover) → IsNetlist cover.netlist → IsExtractedCover c.graph (time_cost cells starts) pats marks ports cover → IsMappingOf labeller cells net starts c (record { netlist = cover.netlist; classes = cover.classes; labels = marks; steps = steps })
    unfolding cover_is_netlist
    cover_maps labeller steps read cover own is = record {
      mapped = record {
        kept = own;
        model_name = is.model ∙ named.model;
        is = cover_is_netlist options.mode options.width (network.plain net) c.graph (library_patterns cells) (timing_of cells starts) most_time marks ports cover (input_names net) (map (output_port net) net.outputs)
            are.graph own_least (subst (λ ps. IsExtractedCover c.graph (time_cost cells starts) ps marks ports cover) pats_are is) some_names named.inputs (named.outputs ∙ port_names net net.outputs) roots_of;
      };
      graph = refl;
      labels = refl;
      gates = refl;
      one_each = least.one_each;
      least = own_least;
      steps = subst (λ ps. AreStepsBy labeller c.graph ps (labels_in (costs_of marks)) steps) pats_are read;
    }

    -- there are few gates
    pub gates_few : (cover : NetlistCover) → IsExtractedCover c.graph (time_cost cells starts) pats marks ports cover → length cover.netlist.gates ≤ most_classes
    gates_few cover is =
        let n = few_gates c.graph (time_cost cells starts) pats (costs_of marks) (heights marks) (numbers ports.roots) (numbers cover.classes) is.gate_classes (plain_netlist cover.netlist) is.extracted in
        let count : length (plain_netlist cover.netlist).gates ≡ length cover.netlist.gates = length-map cover.netlist.gates plain_gate in
        let labels_count : length (costs_of marks) ≡ length marks = length-map marks cost_in in
        let one = least.one_each in
        let few = are.few in
        omega (arith, n)

    abbrev class_of_net : ℕ → ℕ
    class_of_net n = root_class options.width (network.plain net) c.graph n

    abbrev class_of_output : NetId → ℕ
    class_of_output o = class_of_net o.0

    -- an output whose class has no mark has no cover
    no_mark : (o : NetId) (k : ℕ) → o.0 < length net.names → k ≡ class_of_output o → slice_index_or marks k None ≡ None → IsUncovered options cells net starts o
    no_mark o k lt same none by by_is tree =
        let label : labels_in (costs_of marks) k ≡ None = label_at marks k ∙ ap (λ (m : Option Mark). option_map (λ (p : PlainMark). p.cost) (option_map plain_mark m)) none in
        let no : IsLeastCover c.graph (library_patterns cells) (time_cost cells starts) k None = subst (IsLeastCover c.graph (library_patterns cells) (time_cost cells starts) k) label (own_least.least k) in
        no by by_is (subst (Unfolds c.graph (tree_of by)) (sym same) ((graph_trees options.mode options.width (network.plain net) c.graph are.wide.least are.graph (sop_at (signals_of options.width (network.plain net)) o.0) (tree_of by) (sop_occurs options.width are.wide.least (network.plain net) o.0 (net_in_range net kept o lt))).1 tree))

    -- an output whose class has a mark has one
    some_mark : (o : NetId) (k : ℕ) (m : Mark) → o.0 < length net.names → k ≡ class_of_output o → slice_index_or marks k None ≡ Some m → IsCovered options cells net o
    some_mark o k m lt same some =
        let label : labels_in (costs_of marks) k ≡ Some m.cost = label_at marks k ∙ ap (λ (n : Option Mark). option_map (λ (p : PlainMark). p.cost) (option_map plain_mark n)) some in
        let is : IsLeastCover c.graph (library_patterns cells) (time_cost cells starts) k (Some m.cost) = subst (IsLeastCover c.graph (library_patterns cells) (time_cost cells starts) k) label (own_least.least k) in
        let (by, by_is, u, cost) = is.0 in
        let tree = (graph_trees options.mode options.width (network.plain net) c.graph are.wide.least are.graph (sop_at (signals_of options.width (network.plain net)) o.0) (tree_of by) (sop_occurs options.width are.wide.least (network.plain net) o.0 (net_in_range net kept o lt))).0 (subst (Unfolds c.graph (tree_of by)) same u) in
        (by, record { is_cover = by_is; has_tree = tree })

    -- the first root without a mark is that of the first output without a cover
    pub first_lack : (k : ℕ) → IsFirstUncovered marks ports.roots k → (o : NetId) × (slice_get net.outputs k ≡ Some o) × LacksCover options cells net starts (name_in net o)
    first_lack k is =
        let (o, at, lt, same) = output_at net kept ports.roots class_of_net roots_of k is.root is.at in (
          o,
          at,
          record {
            within = are.within;
            place = k;
            output = o;
            at = at;
            named = refl;
            lacks = no_mark o is.root.0 lt same is.uncovered;
            first = λ i other below e.
                let (root, f, is_root) = root_at net kept ports.roots class_of_net roots_of i other e in
                let (m, marked) = is.first i root below f in
                some_mark other root.0 m (in_range net kept i other e) is_root marked;
          },
        )

    pub lack_place : (k : ℕ) → IsFirstUncovered marks ports.roots k → k < length net.outputs
    lack_place k is = let (o, at, lacks) = first_lack k is in slice_get_within net.outputs k o at
