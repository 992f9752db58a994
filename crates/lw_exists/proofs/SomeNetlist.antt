-- The netlist that a network is mapped to cannot fail to be there, where each output has a cover.
use Rattle.std.proofs.Common.{ℕ, zero, suc, ◌+◌, ◌^◌, ◌-◌, ◌<◌, ◌≤◌, ◌≡◌, Bool, true, false, List, [], ◌∷◌, ◌++◌, length, map, take, Option, Some, None, option_map, Contains, slice_get, slice_index_or, refl, ap, sym, ◌∙◌, subst, arith, length-append}
use Rattle.std.specs.List.{AllByRecursion, AllZip}
use Rattle.std.proofs.Math.Seq.{take-append_seam}
use Rattle.std.proofs.lemmas.List.{length-map, length-take-le}
use Rattle.std.proofs.lemmas.List.Elements.{All-from_recursion}
use Rattle.std.proofs.lemmas.Option.{slice_get_within, get_or_from_slice_get}
use Rattle.lw_facts.proofs.Lists.{contains_map, contained_in_map, contained_at}
use Rattle.lw_pool.specs.declared.id.ClassId.{ClassId}
use Rattle.lw_pool.specs.declared.id.NetId.{NetId}
use Rattle.lw_pool.specs.Numbers.{net_number}
use Rattle.lw_fixed.specs.declared.micro.Micro.{Micro}
use Rattle.lw_laws.specs.Graphs.{Graph, Unfolds}
use Rattle.lw_laws.specs.Signals.{sop_at, signals_of}
use Rattle.lw_laws.specs.Listings.{listing_of}
use Rattle.lw_laws.specs.Classes.{IsGraphOf}
use Rattle.lw_laws.specs.Covers.{Pattern, Cover, IsCover, tree_of}
use Rattle.lw_laws.specs.Costs.{Cost}
use Rattle.lw_laws.specs.Delays.{delay_cost}
use Rattle.lw_laws.specs.Choices.{AreHeights}
use Rattle.lw_laws.specs.Matches.{choices_of, IsLeastCover}
use Rattle.lw_laws.specs.Rounds.{labels_in}
use Rattle.lw_laws.specs.Laws.{IsCoverProblem}
use Rattle.lw_laws.specs.Mapped.{root_class}
use Rattle.lw_laws.specs.MappedNetlists.{root_classes, IsNetlistOf}
use Rattle.lw_laws.specs.Extracts.{IsNetOf, IsExtracted}
use Rattle.lw_laws.specs.Headline.{Port as PlainPort}
use Rattle.lw_laws.specs.Names.{net_names, free_names, gate_names}
use Rattle.lw_laws.specs.Netlists as laws
use Rattle.lw_laws.proofs.Delays.{delay_cost_is}
use Rattle.lw_laws.proofs.GraphEncodes.{graph_pairs_once, graph_trees}
use Rattle.lw_laws.proofs.Mapping.{sop_occurs}
use Rattle.lw_laws.proofs.MappedNames.{gate_names_each}
use Rattle.lw_laws.proofs.NetlistOf.{least_costs_bound}
use Rattle.lw_laws.proofs.LabelLaws.{local_heights, heights_there}
use Rattle.lw_laws.proofs.Numbers.{slice_get_map_back}
use Rattle.lw_net.specs.Networks.{NetworkParts, IsNetwork, input_names}
use Rattle.lw_net.specs.Plain as network
use Rattle.lw_net.specs.Ports.{output_port, ports_of}
use Rattle.lw_genlib.specs.Cells.{CellParts, IsLibrary}
use Rattle.lw_genlib.specs.Tables.{timing_of}
use Rattle.lw_form.specs.Limits.{most_bases}
use Rattle.lw_pattern.specs.Libraries.{library_patterns}
use Rattle.lw_label.specs.Delays.{most_time}
use Rattle.lw_assoc.proofs.Built.{pairs_bound}
use Rattle.lw_netlist.specs.declared.gate.Gate.{Gate}
use Rattle.lw_netlist.specs.declared.gate.Port.{Port}
use Rattle.lw_netlist.specs.Netlists.{NetlistParts, IsNetlist, plain_gate, plain, plain_port, mapped_ports}
use Rattle.lw_mapped.specs.declared.certificate.Certificate.{Certificate}
use Rattle.lw_map.specs.Options.{Options, IsWide}
use Rattle.lw_map.specs.Mapped.{base_count, IsMappedNetlist, IsCovered}
use Rattle.lw_map.specs.Certified.{IsAskedFor}
use Rattle.lw_map.proofs.CellLaws.{delay_patterns}
use Rattle.lw_map.proofs.Ranges.{unfolds_low}
use Rattle.lw_map.proofs.GateCount.{few_gates}
use Rattle.lw_exists.specs.Weakly.{Weakly}
use Rattle.lw_exists.proofs.Weak.{and_then, weaker, some_list, some_zip}
use Rattle.lw_exists.proofs.SomeGraph.{some_graph}
use Rattle.lw_exists.proofs.SomeLabels.{some_labels}
use Rattle.lw_exists.proofs.Gates.{IsGateFor, HaveGates, some_gates}

abbrev net_id : ℕ → NetId
net_id n = record { 0 = n }

abbrev class_id : ℕ → ClassId
class_id n = record { 0 = n }

abbrev micro_of : ℕ → Micro
micro_of n = record { 0 = n }

nets_back : (ns : List ℕ) → map net_number (map net_id ns) ≡ ns
nets_back [] = refl
nets_back (n ∷ ns) = ap (λ (ms : List ℕ). n ∷ ms) (nets_back ns)

label_back : (o : Option ℕ) → option_map (λ (label : Micro). label.0) (option_map micro_of o) ≡ o
label_back None = refl
label_back (Some l) = refl

labels_back : (labels : List (Option ℕ)) (c : ℕ) → option_map (λ (label : Micro). label.0) (slice_index_or (map (option_map micro_of) labels) c None) ≡ labels_in labels c
labels_back [] c = refl
labels_back (o ∷ labels) zero = label_back o
labels_back (o ∷ labels) (suc c) = labels_back labels c

classes_back : (cs : List ℕ) → map (option_map (λ (class : ClassId). class.0)) (map Some (map class_id cs)) ≡ map Some cs
classes_back [] = refl
classes_back (c ∷ cs) = ap (λ (os : List (Option ℕ)). Some c ∷ os) (classes_back cs)

-- what holds of numbers holds of the nets that have them
below_nets : (bound : ℕ) (nets : List NetId) → AllByRecursion (λ n. n < bound) (map net_number nets) → AllByRecursion (λ (net : NetId). net.0 < bound) nets
below_nets bound [] a = tt
below_nets bound (n ∷ nets) (lt, a) = (lt, below_nets bound nets a)

-- a netlist that the network is mapped to, with its certificate where it is asked for
abbrev pub HasNetlist : Options → Bool → List CellParts → NetworkParts → List Micro → Type 0
HasNetlist options certified cells net starts =
    (n : NetlistParts) × (is : IsMappedNetlist options cells net starts n) × (certificate : Option Certificate)
    × IsAskedFor options cells net starts n is certified certificate

module _ (options : Options) (cells : List CellParts) (net : NetworkParts) (starts : List Micro) (wide : IsWide options) (kept : IsNetwork net) (lib : IsLibrary cells) (few : base_count options net ≤ most_bases) (covered : (k : ℕ) (o : NetId) → slice_get net.outputs k ≡ Some o → IsCovered options cells net o) (g : Graph) (is : IsGraphOf options.mode net.inputs (listing_of options.width (network.plain net)) g) where
  abbrev pats : List Pattern
  pats = library_patterns cells

  abbrev cost : Cost
  cost = delay_cost (timing_of cells starts) most_time

  abbrev root_at : PlainPort → ℕ
  root_at p = root_class options.width (network.plain net) g p.net

  abbrev roots : List ℕ
  roots = root_classes options.width (network.plain net) g (ports_of net).outputs

  problem : IsCoverProblem g pats cost
  problem = record {
    few = let n = is.written.leaf_count in let m = kept.named in let k = kept.few in omega arith;
    once = graph_pairs_once options.mode options.width (network.plain net) g wide.least is;
    patterns = delay_patterns cells lib;
    cost_is = delay_cost_is (timing_of cells starts) most_time;
  }

  module _ (labels : List (Option ℕ)) (one_each : length labels ≡ length g.pairs) (least : (c : ℕ) → IsLeastCover g pats cost c (labels_in labels c)) where
    by_label : (c : ℕ) (o : Option ℕ) → labels_in labels c ≡ o → IsLeastCover g pats cost c o → (k : Cover) → IsCover cost.pin_counts pats k → Unfolds g (tree_of k) c → (l : ℕ) × (labels_in labels c ≡ Some l)
    by_label c None e none k k_is u = absurd (none k k_is u)
    by_label c (Some l) e some k k_is u = (l, e)

    -- the class of each output has a label
    rooted : (c : ℕ) → Contains roots c → (l : ℕ) × (labels_in labels c ≡ Some l)
    rooted c r =
        let (p, in_ports, same) = contained_in_map root_at (ports_of net).outputs c r in
        let (o, in_outputs, port) = contained_in_map (output_port net) net.outputs p in_ports in
        let (k, at) = contained_at net.outputs o in_outputs in
        let (by, by_is) = covered k o at in
        let lt : o.0 < length net.names = subst (λ (q : NetId). q.0 < length net.names) (get_or_from_slice_get net.outputs k o o at) (kept.outputs k o (slice_get_within net.outputs k o at)) in
        let n = kept.named in
        let m = length-map net.nodes network.plain_node in
        let in_nets : o.0 < net.inputs + length (map network.plain_node net.nodes) = omega arith in
        let u = (graph_trees options.mode options.width (network.plain net) g wide.least is (sop_at (signals_of options.width (network.plain net)) o.0) (tree_of by) (sop_occurs options.width wide.least (network.plain net) o.0 in_nets)).1 by_is.has_tree in
        let here : root_class options.width (network.plain net) g o.0 ≡ c = ap root_at port ∙ same in
        by_label c (labels_in labels c) refl (least c) by by_is.is_cover (subst (Unfolds g (tree_of by)) here u)

    module _ (heights : ℕ → ℕ) (are : AreHeights (choices_of g cost.pin_counts pats) cost (labels_in labels) heights) (gates : List ℕ) (have : HaveGates g cost pats (labels_in labels) heights roots gates) where
      abbrev IsReal : ℕ → Gate → Type 0
      IsReal j gate =
          IsGateFor g cost pats (labels_in labels) heights gates j gate.cell.0 (map net_number gate.pins)
          × (gate.out.0 ≡ net.inputs + j)

      real_at : (j : ℕ) → j < length gates → (gate : Gate) × IsReal j gate
      real_at j lt =
          let (cell, nets, for) = have.each j lt in
          (record { cell = record { 0 = cell }; pins = map net_id nets; out = net_id (net.inputs + j) }, (subst (λ (ns : List ℕ). IsGateFor g cost pats (labels_in labels) heights gates j cell ns) (sym (nets_back nets)) for, refl))

      abbrev IsPortOf : PlainPort → Port → Type 0
      IsPortOf p q =
          ((p.name ≡ q.name) × IsNetOf g gates (root_at p) q.net.0) × (q.net.0 < length g.leaves + length gates)

      some_ports : (qs : List Port) × AllZip IsPortOf (ports_of net).outputs qs
      some_ports =
          some_zip IsPortOf (ports_of net).outputs (λ p in'.
          let (k, at, lt) = have.root_nets (root_at p) (contains_map root_at (ports_of net).outputs p in') in
          (record { name = p.name; net = net_id k }, ((refl, at), lt)))

      ports_plain : (ps : List PlainPort) (qs : List Port) → AllZip IsPortOf ps qs → AllZip (λ p q. (p.name ≡ q.name) × IsNetOf g gates (root_at p) q.net) ps (map plain_port qs)
      ports_plain [] [] a = tt
      ports_plain [] (q ∷ qs) a = absurd a
      ports_plain (p ∷ ps) [] a = absurd a
      ports_plain (p ∷ ps) (q ∷ qs) ((same, lt), a) = (same, ports_plain ps qs a)

      ports_low : (ps : List PlainPort) (qs : List Port) → AllZip IsPortOf ps qs → AllByRecursion (λ (q : Port). q.net.0 < length g.leaves + length gates) qs
      ports_low [] [] a = tt
      ports_low [] (q ∷ qs) a = absurd a
      ports_low (p ∷ ps) [] a = absurd a
      ports_low (p ∷ ps) (q ∷ qs) ((same, lt), a) = (lt, ports_low ps qs a)

      abbrev outs : List (List ℕ)
      outs = map (λ (p : PlainPort). p.name) (ports_of net).outputs

      abbrev names : List (List ℕ)
      names = net_names (input_names net) outs roots gates

      some_names : length (input_names net) ≡ net.inputs
      some_names = let n = kept.named in length-take-le net.inputs net.names (omega arith)

      abbrev own_names : List (List ℕ)
      own_names = gate_names outs roots (free_names (input_names net ++ outs) (length gates)) gates

      names_each : length names ≡ net.inputs + length gates
      names_each =
          let a = length-append (input_names net) own_names in
          let b = gate_names_each outs roots (free_names (input_names net ++ outs) (length gates)) gates in
          let c = some_names in
          omega arith

      first_names : take net.inputs names ≡ input_names net
      first_names = ap (λ k. take k names) (sym some_names) ∙ take-append_seam (input_names net) own_names

      module _ (real : List Gate) (count : length real ≡ length gates) (real_is : (j : ℕ) (gate : Gate) → slice_get real j ≡ Some gate → IsReal j gate) (qs : List Port) (zip : AllZip IsPortOf (ports_of net).outputs qs) where
        abbrev made : NetlistParts
        made = record { model = net.model; names = names; inputs = net.inputs; gates = real; outputs = qs }

        gate_count : length (map plain_gate real) ≡ length gates
        gate_count = length-map real plain_gate ∙ count

        extracted : IsExtracted g cost pats (labels_in labels) heights gates (plain made)
        extracted = record {
          inputs = sym is.written.leaf_count;
          one_each = gate_count;
          chosen = λ j gt e.
              let (gate, at, same) = slice_get_map_back plain_gate real j gt e in
              let for = (real_is j gate at).0 in
              (for.class, for.match, for.pattern, for.at, for.chosen, ap (λ (x : laws.Gate). x.cell) (sym same) ∙ for.cell_is, subst (λ (x : laws.Gate). AllZip (λ q net. IsNetOf g gates q net) for.match.pins x.pins) same for.nets_are);
        }

        few_names : length names ≤ 2 ^ 32 - 2
        few_names =
            let a = few_gates g cost pats labels heights roots gates have.are (plain made) extracted in
            let b = gate_count in
            let c = names_each in
            let d = is.written.class_count in
            let e = is.written.form_count in
            let f = pairs_bound 0 g.forms in
            let h = kept.named in
            let i = kept.few in
            omega arith

        net_count : length g.leaves + length gates ≡ length names
        net_count = let n = is.written.leaf_count in let a = names_each in omega arith

        netlist_kept : IsNetlist made
        netlist_kept = record {
          named = names_each ∙ ap (λ (k : ℕ). net.inputs + k) (sym count);
          few = few_names;
          gates = λ j gate e.
              let (for, out) = real_is j gate e in
              let n = is.written.leaf_count in
              record {
                drives = out;
                before = All-from_recursion (λ (x : NetId). x.0 < net.inputs + j) gate.pins (subst (λ (bound : ℕ). AllByRecursion (λ (x : NetId). x.0 < bound + j) gate.pins) n (below_nets (length g.leaves + j) gate.pins for.before));
              };
          outputs = All-from_recursion (λ (q : Port). q.net.0 < length names) qs (subst (λ (bound : ℕ). AllByRecursion (λ (q : Port). q.net.0 < bound) qs) net_count (ports_low (ports_of net).outputs qs zip));
        }

        netlist_of : IsNetlistOf options.mode options.width (network.plain net) (ports_of net) pats (timing_of cells starts) most_time (plain made) names (mapped_ports made)
        netlist_of = record {
          graph = g;
          is_graph = is;
          labels = labels;
          least = least;
          heights = heights;
          height = local_heights g pats cost labels heights are;
          gates = gates;
          gate_classes = have.are;
          extracted = extracted;
          input_names = first_names;
          outputs = ports_plain (ports_of net).outputs qs zip;
          names_are = refl;
        }

        mapped : IsMappedNetlist options cells net starts made
        mapped = record { kept = netlist_kept; model_name = refl; is = netlist_of }

        certificate : Certificate
        certificate = record { labels = map (option_map micro_of) labels; nets = map Some (map class_id gates) }

        certified_or_not : (certified : Bool) → HasNetlist options certified cells net starts
        unfolding mapped netlist_of certificate
        certified_or_not false = (made, mapped, None, tt)
        certified_or_not true =
            (made, mapped, Some certificate, record { is_of = record { labels = labels_back labels; nets = classes_back gates }; one_each = length-map labels (option_map micro_of) ∙ one_each })

      made_netlist : (certified : Bool) → HasNetlist options certified cells net starts
      made_netlist certified =
          let (real, count, real_is) = some_list IsReal (length gates) real_at in
          let (qs, zip) = some_ports in
          certified_or_not real count real_is qs zip certified

    weakly_made : (certified : Bool) → Weakly (HasNetlist options certified cells net starts)
    weakly_made certified =
        let (potential, attained) = least_costs_bound g pats cost labels problem least in
        let (heights, are) = heights_there g pats cost labels problem potential attained in
        weaker (λ (gates, have). made_netlist heights are gates have certified) (some_gates g cost pats labels heights roots are rooted)

  by_graph : (certified : Bool) → Weakly (HasNetlist options certified cells net starts)
  by_graph certified =
      and_then (some_labels g pats cost (unfolds_low options.mode options.width (network.plain net) g wide.least is)) (λ (labels, one_each, least).
      weakly_made labels one_each least certified)

pub some_netlist : (options : Options) (cells : List CellParts) (net : NetworkParts) (starts : List Micro) → IsWide options → IsNetwork net → IsLibrary cells → base_count options net ≤ most_bases → ((k : ℕ) (o : NetId) → slice_get net.outputs k ≡ Some o → IsCovered options cells net o) → (certified : Bool) → Weakly (HasNetlist options certified cells net starts)
some_netlist options cells net starts wide kept lib few covered certified =
    and_then (some_graph options.mode options.width (network.plain net) wide.least) (λ (g, is).
    by_graph options cells net starts wide kept lib few covered g is certified)
