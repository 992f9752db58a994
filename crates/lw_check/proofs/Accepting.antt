-- The netlist that a network is mapped to is accepted with its certificate.
use Rattle.std.proofs.Common.{ℕ, ◌+◌, ◌<◌, ◌≡◌, inl, inr, List, [], ◌∷◌, ◌++◌, length, map, All, IfSome, Option, Some, None, option_map, slice_get, slice_index_or, get_or, length-append, refl, ap, sym, ◌∙◌, subst, arith}
use Rattle.std.specs.List.{AllZip, AllByRecursion, filter_map}
use Rattle.std.proofs.lemmas.List.{length-map}
use Rattle.std.proofs.lemmas.List.Elements.{recursion_from_All}
use Rattle.std.proofs.lemmas.Option.{same_Some, slice_get_within, slice_get-get_or, get_or_from_slice_get}
use Rattle.lw_facts.proofs.Lists.{all_at, get_right, index_at, some_within, all_by_place}
use Rattle.lw_fixed.specs.declared.micro.Micro.{Micro}
use Rattle.lw_pool.specs.declared.id.NetId.{NetId}
use Rattle.lw_laws.specs.Costs.{Cost}
use Rattle.lw_laws.specs.Covers.{Pattern, tree_of}
use Rattle.lw_laws.specs.Listings.{listing_of}
use Rattle.lw_laws.specs.Delays.{delay_cost}
use Rattle.lw_laws.specs.Choices.{IsPotential, Labels}
use Rattle.lw_laws.specs.Extracts.{AreGateClasses, HaveLeafLabels, IsExtracted, IsNetOf, class_at}
use Rattle.lw_laws.specs.Flip.{flip}
use Rattle.lw_laws.specs.Graphs.{Graph, Stands}
use Rattle.lw_laws.specs.Headline.{Port as PlainPort, HasLeastArrival}
use Rattle.lw_laws.specs.Encodings.{Encodes}
use Rattle.lw_laws.specs.MatchLists.{IsMatchNetlist}
use Rattle.lw_laws.specs.NumberedForms.{family_of}
use Rattle.lw_laws.specs.Signals.{sop_at, signals_of}
use Rattle.lw_laws.specs.Laws.{IsCoverProblem}
use Rattle.lw_laws.specs.Mapped.{forms_of, root_class}
use Rattle.lw_laws.specs.MappedNetlists.{root_classes}
use Rattle.lw_laws.specs.Matches.{IsMatchAt, IsLeastCover, choices_of}
use Rattle.lw_laws.specs.Modes.{Mode}
use Rattle.lw_laws.specs.Netlists as laws
use Rattle.lw_laws.specs.Netlists.{AreArrivals}
use Rattle.lw_laws.specs.Networks as nets
use Rattle.lw_laws.specs.Rounds.{labels_in}
use Rattle.lw_laws.specs.Trees.{Tree, leaf, const_one, const_zero, inv, nand}
use Rattle.lw_laws.proofs.ClassLaws.{graphs_once}
use Rattle.lw_laws.proofs.Delays.{delay_cost_is}
use Rattle.lw_laws.proofs.ExtractLaws.{extracted_arrivals, extracted_is_matches}
use Rattle.lw_laws.proofs.GraphEncodes.{forms_encode}
use Rattle.lw_laws.proofs.Netlists.{net_covered}
use Rattle.lw_laws.proofs.Sound.{network_is_sound}
use Rattle.lw_laws.proofs.Flips.{half-flip}
use Rattle.lw_laws.proofs.InputLabels.{input_label}
use Rattle.lw_laws.proofs.Listed.{occurring_is_listing}
use Rattle.lw_laws.proofs.Lists.{all_append, held_in}
use Rattle.lw_laws.proofs.NetlistOf.{least_costs_bound, root_least, root_uncovered}
use Rattle.lw_laws.proofs.NetlistOnce.{least_time_once}
use Rattle.lw_laws.proofs.NetlistValues.{some_arrivals}
use Rattle.lw_genlib.specs.Tables.{millionths}
use Rattle.lw_graph.specs.Graphs.{IsGraph}
use Rattle.lw_label.specs.Delays.{most_time}
use Rattle.lw_net.specs.Plain as network
use Rattle.lw_netlist.specs.declared.gate.Port.{Port}
use Rattle.lw_netlist.specs.Plain as netlist
use Rattle.lw_mapped.specs.Parsed.{IsLabel}
use Rattle.lw_mapped.specs.Standing.{AreLabels}
use Rattle.lw_check.specs.Claims.{AreMatches, Claim, HasPotential, IsAtRoot, IsOnTimeAt, class_number, class_numbers, class_of_net, first_unknown_class, label_of_class, labelled_from, net_classes, plain_labels, timing_in}
use Rattle.lw_check.specs.Mappings.{IsKept, IsMappingOf, IsOverGraph, IsTimelyNetlist}
use Rattle.lw_check.specs.Verdicts.{IsVerdictOn}
use Rattle.lw_check.specs.declared.verdict.Verdict.TheVariants.{Yes}
use Rattle.lw_check.proofs.Places.{zip_at, zip_left, map_at, from_map, read_map, read_some, somes_append, some_mapped}
use Rattle.lw_check.proofs.Unknown.{none_found, labelled_below, nets_below}
use Rattle.lw_net.specs.Ports.{output_port, ports_of}
use Rattle.lw_netlist.specs.Plain.{plain_port, mapped_ports, port_name}
use Rattle.lw_pool.specs.Numbers.{net_number}

-- a tree that unfolds at a class of a graph does so at one in range
module _ (g : Graph) (is : IsGraph g) where
  flip_in : (c : ℕ) → flip c < length g.pairs → c < length g.pairs
  flip_in c lt = let half = half-flip c in let even = is.even in omega arith

  flipped_in : (c : ℕ) → c < length g.pairs → flip c < length g.pairs
  flipped_in c lt = let half = half-flip c in let even = is.even in omega arith

  pub unfolds_in : (t : Tree) (c : ℕ) → Stands g g.leaves t c → c < length g.pairs
  unfolds_in (leaf k) c s =
      subst (λ d. d < length g.pairs) (get_or_from_slice_get g.leaves k c 0 s) (is.leaves k 0 (slice_get_within g.leaves k c s))
  unfolds_in const_one c s = let lt = is.one in omega arith
  unfolds_in const_zero c s = let lt = flipped_in g.one is.one in omega arith
  unfolds_in (inv t) c s = flip_in c (unfolds_in t (flip c) s)
  unfolds_in (nand t u) c (x, y, inl h, s, r) = held_in g.pairs c (record { x = x; y = y }) h
  unfolds_in (nand t u) c (x, y, inr h, s, r) = held_in g.pairs c (record { x = y; y = x }) h

  pub labelled_in : (cost : Cost) (pats : List Pattern) (c l : ℕ) (o : Option ℕ) → o ≡ Some l → IsLeastCover g pats cost c o → c < length g.pairs
  labelled_in cost pats c l None e is' = cc
  labelled_in cost pats c l (Some d) e ((by, is_cover, unfolds, costs), least) = unfolds_in (tree_of by) c unfolds

-- the names of outputs side by side
names_beside : (R : PlainPort → PlainPort → Type 0) (f : NetId → PlainPort) (outputs : List NetId) (ports : List Port) → AllZip (λ p q. (p.name ≡ q.name) × R p q) (map f outputs) (map plain_port ports) → map port_name ports ≡ map (λ o. (f o).name) outputs
names_beside R f [] [] a = refl
names_beside R f [] (q ∷ ports) a = absurd a
names_beside R f (o ∷ outputs) [] a = absurd a
names_beside R f (o ∷ outputs) (q ∷ ports) ((e, r), a) =
    let rest = names_beside R f outputs ports a in λ i. sym e i ∷ rest i

module _ (mode : Mode) (width : ℕ) (k : Claim) (kept : IsKept k) (over : IsOverGraph mode width k) (limits : AreLabels k.mapped.cert) (frame : k.mapped.frame ≡ k.frame) where
  abbrev n : laws.Netlist
  n = netlist.plain k.mapped.netlist

  abbrev net' : nets.Network
  net' = network.plain k.net

  abbrev cost : Cost
  cost = delay_cost (timing_in k) most_time

  abbrev roots : List ℕ
  roots = root_classes width net' k.graph (ports_of k.net).outputs

  -- a netlist of matches over the claim's graph, with the labels and the classes of the certificate
  module _ (labels : List (Option ℕ)) (least : (c : ℕ) → IsLeastCover k.graph k.pats cost c (labels_in labels c)) (gates : List ℕ) (matches : IsMatchNetlist k.graph cost.pin_counts k.pats gates n) (input_names : (mapped_ports k.mapped.netlist).inputs ≡ (ports_of k.net).inputs) (outputs : AllZip (λ p q. (p.name ≡ q.name) × IsNetOf k.graph gates (root_class width net' k.graph p.net) q.net) (ports_of k.net).outputs (mapped_ports k.mapped.netlist).outputs) (same_labels : (c : ℕ) → option_map millionths (label_of_class k c) ≡ labels_in labels c) (same_classes : map (option_map class_number) k.mapped.cert.nets ≡ map Some gates) where
    problem : IsCoverProblem k.graph k.pats cost
    problem = record { few = over.kept.few_inputs; once = over.kept.once; patterns = over.patterns; cost_is = delay_cost_is (timing_in k) most_time }

    -- the classes of the nets
    abbrev classes : List ℕ
    classes = k.graph.leaves ++ gates

    net_classes_are : net_classes k.graph k.mapped.cert ≡ map Some classes
    net_classes_are = ap (λ cs. map Some k.graph.leaves ++ cs) same_classes ∙ somes_append k.graph.leaves gates

    class_read : (net : NetId) (c : ℕ) → slice_get classes net.0 ≡ Some c → class_of_net k net ≡ Some c
    class_read net c at = ap (λ cs. slice_index_or cs net.0 None) net_classes_are ∙ read_some classes net.0 c at

    class_there : (net : NetId) → net.0 < length classes → class_of_net k net ≡ Some (class_at k.graph gates net.0)
    class_there net lt = class_read net (class_at k.graph gates net.0) (slice_get-get_or classes net.0 0 lt)

    long : length classes ≡ length k.mapped.netlist.names
    long =
        let a = matches.inputs in
        let b = matches.one_each in
        let c = kept.netlist.named in
        let d = length-map k.mapped.netlist.gates netlist.plain_gate in
        let e = length-append k.graph.leaves gates in
        omega arith

    -- labels as the certificate has them
    plain_same : (c : ℕ) → labels_in (plain_labels k.mapped.cert) c ≡ labels_in labels c
    plain_same c = read_map (option_map millionths) refl k.mapped.cert.labels c ∙ same_labels c

    labelled_known : (c : ℕ) (l : Micro) → label_of_class k c ≡ Some l → c < length k.graph.pairs
    labelled_known c l e =
        labelled_in k.graph over.kept cost k.pats c l.0 (labels_in labels c) (sym (same_labels c) ∙ ap (option_map millionths) e) (least c)

    gate_known : (j c : ℕ) → slice_get gates j ≡ Some c → c < length k.graph.pairs
    gate_known j c at =
        let inside : n.inputs + j < n.inputs + length n.gates = let a = matches.one_each in let b = slice_get_within gates j c at in omega arith in
        let by = net_covered k.graph cost.pin_counts k.pats n (class_at k.graph gates) matches.ordered matches.mapped (n.inputs + j) inside in
        let net : slice_get classes (n.inputs + j) ≡ Some c = subst (λ i. slice_get classes (i + j) ≡ Some c) (sym matches.inputs) (get_right k.graph.leaves gates j c at) in
        subst (λ d. d < length k.graph.pairs) (index_at classes (n.inputs + j) c net) (unfolds_in k.graph over.kept (tree_of by.by) (class_at k.graph gates (n.inputs + j)) by.unfolds)

    gates_known : AllByRecursion (λ c. c < length k.graph.pairs) gates
    gates_known = all_by_place (λ c. c < length k.graph.pairs) gates gate_known

    known : first_unknown_class k ≡ None
    known = none_found (length k.graph.pairs) (class_numbers k.mapped.cert) (all_append (λ c. c < length k.graph.pairs) (labelled_from 0 k.mapped.cert.labels) (filter_map (option_map class_number) k.mapped.cert.nets) (labelled_below (length k.graph.pairs) k.mapped.cert.labels 0 (λ j l e. let lt = labelled_known j l e in omega arith)) (nets_below (length k.graph.pairs) k.mapped.cert.nets gates same_classes gates_known))

    pins_there : (pins : List NetId) → AllByRecursion (λ (net : NetId). net.0 < length classes) pins → map (class_of_net k) pins ≡ map Some (map (class_at k.graph gates) (map net_number pins))
    pins_there [] a = refl
    pins_there (pin ∷ pins) (lt, a) = let head = class_there pin lt in let rest = pins_there pins a in λ i. head i ∷ rest i

    matched : AreMatches k
    matched j gate at =
        let row = kept.netlist.gates j gate at in
        let match' = matches.mapped.gates j (netlist.plain_gate gate) (map_at netlist.plain_gate k.mapped.netlist.gates j gate at) in
        let inside = slice_get_within k.mapped.netlist.gates j gate at in
        let own : gate.out.0 < length classes = let a = row.drives in let b = kept.netlist.named in let c = long in omega arith in
        let before : (net : NetId) → net.0 < k.mapped.netlist.inputs + j → net.0 < length classes = λ net lt. let b = kept.netlist.named in let c = long in omega arith in
        record {
          class = class_at k.graph gates gate.out.0;
          has_class = class_there gate.out own;
          pins = map (class_at k.graph gates) (map net_number gate.pins);
          have_classes = pins_there gate.pins (all_rec gate.pins (λ i d lt. before (get_or gate.pins i d) (row.before i d lt)));
          stands = subst (λ o. IsMatchAt k.graph cost.pin_counts k.pats (class_at k.graph gates o) gate.cell.0 (map (class_at k.graph gates) (map net_number gate.pins))) (sym row.drives) match';
        }
      where
        all_rec : (pins : List NetId) → All (λ (net : NetId). net.0 < length classes) pins → AllByRecursion (λ (net : NetId). net.0 < length classes) pins
        all_rec pins all = recursion_from_All (λ (net : NetId). net.0 < length classes) pins all

    potential : HasPotential k
    potential =
        let is = (least_costs_bound k.graph k.pats cost labels problem least).0 in
        subst (λ (f : Labels). IsPotential (choices_of k.graph cost.pin_counts k.pats) cost f) (λ i c. sym (plain_same c) i) is

    -- an output's net is that of its root
    root_net : (j : ℕ) (port : Port) → slice_get k.mapped.netlist.outputs j ≡ Some port → (output : NetId) × (slice_get k.net.outputs j ≡ Some output) × IsNetOf k.graph gates (root_class width net' k.graph output.0) port.net.0
    root_net j port at =
        let R : PlainPort → PlainPort → Type 0 = λ p q. (p.name ≡ q.name) × IsNetOf k.graph gates (root_class width net' k.graph p.net) q.net in
        let here = map_at plain_port k.mapped.netlist.outputs j port at in
        let (p, there) = zip_left R (map (output_port k.net) k.net.outputs) (map plain_port k.mapped.netlist.outputs) j (plain_port port) outputs here in
        let (output, out_at, same) = from_map (output_port k.net) k.net.outputs j p there in
        let r = zip_at R (map (output_port k.net) k.net.outputs) (map plain_port k.mapped.netlist.outputs) j p (plain_port port) outputs there here in
        (output, out_at, subst (λ (x : PlainPort). IsNetOf k.graph gates (root_class width net' k.graph x.net) port.net.0) (sym same) r.1)

    at_root : (j : ℕ) → IsAtRoot k j
    at_root j port root at root_at =
        let (output, out_at, net) = root_net j port at in
        let a = map_at class_number k.roots j root root_at in
        let b = map_at (λ (o : NetId). root_class width net' k.graph o.0) k.net.outputs j output out_at in
        let same : root_class width net' k.graph output.0 ≡ root.0 = same_Some (root_class width net' k.graph output.0) root.0 (sym b ∙ (ap (λ xs. slice_get xs j) (sym over.roots) ∙ a)) in
        class_read port.net (root_class width net' k.graph output.0) net ∙ ap Some same

    -- labels are below the cap
    low : (c l : ℕ) → labels_in labels c ≡ Some l → l < most_time
    low c l e =
        let (label, at, same) = some_mapped millionths (label_of_class k c) l (same_labels c ∙ e) in
        let small : IsLabel label = subst (λ o. IfSome o IsLabel) at (limits.labels c None (some_within k.mapped.cert.labels c label at)) in
        omega (arith, small, same)

    -- each output arrives at the label of its root
    abbrev pub AtLabels : Type 0
    AtLabels = (ds : List ℕ) → AreArrivals (timing_in k) n ds → (j : ℕ) (output : NetId) (port : Port) → slice_get k.net.outputs j ≡ Some output → slice_get k.mapped.netlist.outputs j ≡ Some port → labels_in labels (root_class width net' k.graph output.0) ≡ Some (slice_index_or ds port.net.0 0)

    leaf_labels : HaveLeafLabels k.graph cost (labels_in labels)
    leaf_labels c i at = input_label mode width net' k.graph over.wide over.is_graph k.pats (timing_in k) most_time over.patterns i c (labels_in labels c) at (least c)

    -- where the matches are the chosen ones
    pub chosen_at_labels : (heights : ℕ → ℕ) → AreGateClasses k.graph cost k.pats (labels_in labels) heights roots gates → IsExtracted k.graph cost k.pats (labels_in labels) heights gates n → AtLabels
    chosen_at_labels heights gate_classes extracted ds are j output port out_at at =
        let (other, other_at, net) = root_net j port at in
        let same : other ≡ output = same_Some other output (sym other_at ∙ out_at) in
        extracted_arrivals k.graph k.pats (timing_in k) most_time (labels_in labels) heights roots gates n ds gate_classes extracted are leaf_labels low (root_class width net' k.graph output.0) port.net.0 (subst (λ (o : NetId). IsNetOf k.graph gates (root_class width net' k.graph o.0) port.net.0) same net)

    -- where the outputs arrive at their least times
    pub least_at_labels : ((ds : List ℕ) → AreArrivals (timing_in k) n ds → AllZip (λ p q. HasLeastArrival mode width net' k.pats (timing_in k) p.net (slice_index_or ds q.net 0)) (ports_of k.net).outputs (mapped_ports k.mapped.netlist).outputs) → AtLabels
    least_at_labels timely ds are j output port out_at at =
        let R : PlainPort → PlainPort → Type 0 = λ p q. HasLeastArrival mode width net' k.pats (timing_in k) p.net (slice_index_or ds q.net 0) in
        let here = map_at plain_port k.mapped.netlist.outputs j port at in
        let there = map_at (output_port k.net) k.net.outputs j output out_at in
        let is = zip_at R (map (output_port k.net) k.net.outputs) (map plain_port k.mapped.netlist.outputs) j (output_port k.net output) (plain_port port) (timely ds are) there here in
        let s = output.0 in
        let lt : s < net'.inputs + length net'.nodes = let a = kept.network.named in let b = length-map k.net.nodes network.plain_node in let c = all_at (λ (o : NetId). o.0 < length k.net.names) k.net.outputs j output kept.network.outputs out_at in omega arith in
        by_label s (slice_index_or ds port.net.0 0) lt is (labels_in labels (root_class width net' k.graph s)) refl
      where
        encodes : Encodes (family_of mode (forms_of width net')) k.graph
        encodes = forms_encode mode k.net.inputs (listing_of width net') k.graph (network_is_sound width over.wide net') over.is_graph

        by_label : (s d : ℕ) → s < net'.inputs + length net'.nodes → HasLeastArrival mode width net' k.pats (timing_in k) s d → (o : Option ℕ) → labels_in labels (root_class width net' k.graph s) ≡ o → labels_in labels (root_class width net' k.graph s) ≡ Some d
        by_label s d lt is None e =
            let (cover, is_cover, tree, time) = is.attained in
            absurd (root_uncovered mode width net' k.graph k.pats (timing_in k) most_time over.wide encodes s lt (subst (IsLeastCover k.graph k.pats cost (root_class width net' k.graph s)) e (least (root_class width net' k.graph s))) cover is_cover tree)
        by_label s d lt is (Some l) e =
            let other = root_least mode width net' k.graph k.pats (timing_in k) most_time over.wide encodes s lt l (low (root_class width net' k.graph s) l e) (subst (IsLeastCover k.graph k.pats cost (root_class width net' k.graph s)) e (least (root_class width net' k.graph s))) in
            e ∙ ap Some (least_time_once mode width (signals_of width net') k.pats (timing_in k) (sop_at (signals_of width net') s) l d other is)

    on_time : AtLabels → (j : ℕ) → IsOnTimeAt k j
    on_time at_labels j port at =
        let (output, out_at, net) = root_net j port at in
        let root = root_class width net' k.graph output.0 in
        let (ds, are) = some_arrivals n matches.ordered (timing_in k) in
        let time = at_labels ds are j output port out_at at in
        let (label, has, same) = some_mapped millionths (label_of_class k root) (slice_index_or ds port.net.0 0) (same_labels root ∙ time) in
        let inside : port.net.0 < length ds = let a = are.one_each in let b = slice_get_within classes port.net.0 root net in let c = long in let d = kept.netlist.named in let e = length-map k.mapped.netlist.gates netlist.plain_gate in omega arith in
        record {
          class = root;
          has_class = class_read port.net root net;
          label = label;
          has_label = has;
          arrives = record { arrivals = ds; are = are; at = slice_get-get_or ds port.net.0 0 inside ∙ ap Some (sym same) };
        }

    pub accepted_over : AtLabels → IsVerdictOn k Yes
    accepted_over at_labels = (
      record {
        inputs = input_names;
        outputs = names_beside (λ p q. IsNetOf k.graph gates (root_class width net' k.graph p.net) q.net) (output_port k.net) k.net.outputs k.mapped.netlist.outputs outputs;
        frame = frame;
      },
      known,
      matched,
      potential,
      at_root,
      on_time at_labels,
    )

-- over any graph of the forms, since there is one
pub mapping_accepted : (mode : Mode) (width : ℕ) (k : Claim) → IsKept k → IsOverGraph mode width k → IsMappingOf mode width k → IsVerdictOn k Yes
mapping_accepted mode width k kept over is =
    let net' = network.plain k.net in
    let g = is.is.graph in
    let same : g ≡ k.graph = graphs_once mode k.net.inputs (listing_of width net') (occurring_is_listing width over.wide net') g k.graph is.is.is_graph over.is_graph in
    let here : Claim = record k { graph = g } in
    let here_kept : IsKept here = record { network = kept.network; in_order = kept.in_order; netlist = kept.netlist; one_class = kept.one_class } in
    let here_over : IsOverGraph mode width here = subst (λ h. IsOverGraph mode width (record k { graph = h })) (sym same) over in
    let labels_same : (c : ℕ) → option_map millionths (label_of_class k c) ≡ labels_in is.is.labels c = λ c. ap (option_map millionths) (is.same.labels c) ∙ is.of_mapping.labels c in
    let classes_same : map (option_map class_number) k.mapped.cert.nets ≡ map Some is.is.gates = ap (map (option_map class_number)) is.same.nets ∙ is.of_mapping.nets in
    let matches = extracted_is_matches g (delay_cost (timing_in k) most_time) k.pats (labels_in is.is.labels) is.is.heights (root_classes width net' g (ports_of k.net).outputs) is.is.gates is.is.gate_classes (netlist.plain k.mapped.netlist) is.is.extracted in
    subst (λ h. IsVerdictOn (record k { graph = h }) Yes) same
    (accepted_over mode width here here_kept here_over is.labels is.frame is.is.labels is.is.least is.is.gates matches is.is.input_names is.is.outputs labels_same classes_same
    (chosen_at_labels mode width here here_kept here_over is.labels is.frame is.is.labels is.is.least is.is.gates matches is.is.input_names is.is.outputs labels_same classes_same is.is.heights is.is.gate_classes is.is.extracted))

-- any netlist of matches whose outputs arrive at their least times is accepted
pub timely_accepted : (mode : Mode) (width : ℕ) (k : Claim) → IsKept k → IsOverGraph mode width k → IsTimelyNetlist mode width k → IsVerdictOn k Yes
timely_accepted mode width k kept over is =
    let net' = network.plain k.net in
    let g = is.is.graph in
    let same : g ≡ k.graph = graphs_once mode k.net.inputs (listing_of width net') (occurring_is_listing width over.wide net') g k.graph is.is.is_graph over.is_graph in
    let here : Claim = record k { graph = g } in
    let here_kept : IsKept here = record { network = kept.network; in_order = kept.in_order; netlist = kept.netlist; one_class = kept.one_class } in
    let here_over : IsOverGraph mode width here = subst (λ h. IsOverGraph mode width (record k { graph = h })) (sym same) over in
    subst (λ h. IsVerdictOn (record k { graph = h }) Yes) same
    (accepted_over mode width here here_kept here_over is.limits is.frame is.labels is.least is.is.gates is.is.matches is.is.input_names is.is.outputs is.labels_are is.classes_are
    (least_at_labels mode width here here_kept here_over is.limits is.frame is.labels is.least is.is.gates is.is.matches is.is.input_names is.is.outputs is.labels_are is.classes_are is.timely))
