-- A cover of least area is a netlist of least area without a deadline.
use Rattle.std.proofs.Common.{ℕ, zero, suc, ◌+◌, ◌^◌, ◌<◌, ◌≤◌, ◌≡◌, Contains, List, [], ◌∷◌, ◌++◌, map, take, length, Option, Some, None, option_map, slice_get, slice_index_or, length-append, refl, ap, ap₂, sym, ◌∙◌, subst, arith}
use Rattle.std.specs.List.{AllZip, IsDistinct}
use Rattle.std.specs.Str.{bytes_eq}
use Rattle.std.proofs.lemmas.List.{length-map, length-take-le, take_at}
use Rattle.std.proofs.lemmas.Option.{get_or_from_slice_get, slice_get_within}
use Rattle.lw_facts.proofs.Lists.{at_contained, contained_at, contained_in_map}
use Rattle.lw_naming.proofs.GivenNames.{own_names}
use Rattle.lw_pool.specs.declared.id.NetId.{NetId}
use Rattle.lw_pool.specs.declared.id.ClassId.{ClassId}
use Rattle.lw_fixed.specs.declared.micro.Micro.{Micro}
use Rattle.lw_laws.specs.Costs.{cost_of}
use Rattle.lw_laws.specs.Covers.{Pattern, tree_of}
use Rattle.lw_laws.specs.Covers.Cover.{wire}
use Rattle.lw_laws.specs.Graphs.{Unfolds}
use Rattle.lw_laws.specs.Choices.{IsHeight}
use Rattle.lw_laws.specs.Classes.{class_in}
use Rattle.lw_laws.specs.Listings.{listing_of}
use Rattle.lw_laws.specs.Matches.{choices_of, IsLeastCover}
use Rattle.lw_laws.specs.Extracts.{HaveLeafLabels, IsNetOf, class_at, net_classes}
use Rattle.lw_laws.specs.Mapped.{root_class, IsMapped}
use Rattle.lw_laws.specs.MappedNetlists.{root_classes, AreNetNames, ArePortNames}
use Rattle.lw_laws.specs.Names.{AreNameable, free_names, gate_names, net_names}
use Rattle.lw_laws.specs.Netlists.{AreOrdered, AreByDepth}
use Rattle.lw_laws.specs.Headline.{Port as PlainPort, HasLeastArrival}
use Rattle.lw_laws.proofs.ExtractLaws.{ordered_and_mapped, gate_once, extracted_costs}
use Rattle.lw_laws.proofs.InputClasses.{distinct_leaves}
use Rattle.lw_laws.proofs.MappedDepths.{extracted_by_depth}
use Rattle.lw_laws.proofs.MappedNames.{input_sop}
use Rattle.lw_laws.proofs.Netlists.{net_covered}
use Rattle.lw_laws.proofs.NetlistValues.{some_net_costs}
use Rattle.lw_laws.proofs.Numbers.{slice_get_map, slice_get_map_back}
use Rattle.lw_net.specs.Networks.{NetworkParts, IsNetwork, name_in, input_names, output_names}
use Rattle.lw_net.specs.Plain as network
use Rattle.lw_genlib.specs.Cells.{CellParts, IsLibrary}
use Rattle.lw_genlib.specs.Tables.{timing_of}
use Rattle.lw_pattern.specs.Libraries.{library_patterns}
use Rattle.lw_cost.specs.declared.mark.Mark.{Mark}
use Rattle.lw_cost.specs.Values.{plain_mark}
use Rattle.lw_laws.specs.Marks.{Mark as PlainMark, heights_of}
use Rattle.lw_cost.specs.Labels.{AreLeastMarks, costs_of}
use Rattle.lw_cost.proofs.MarksAsLabels.{label_at, mark_of_label}
use Rattle.lw_laws.specs.Rounds.{labels_in}
use Rattle.lw_netlist.specs.declared.gate.Port.{Port}
use Rattle.lw_netlist.specs.Netlists.{IsNetlist}
use Rattle.lw_netlist.specs.Plain as netlist
use Rattle.lw_extract.specs.declared.ports.Ports.{Ports}
use Rattle.lw_extract.specs.declared.ports.Cover.{Cover as NetlistCover}
use Rattle.lw_extract.specs.Choosing.{labels, heights}
use Rattle.lw_extract.specs.Covers.{IsExtractedCover, IsFirstUncovered}
use Rattle.lw_choices.specs.Areas.{area_cost}
use Rattle.lw_map.specs.declared.choices.Choices.{Choices}
use Rattle.lw_map.specs.Options.{plain_options}
use Rattle.lw_map.specs.Choices.{AreChoicesOf}
use Rattle.lw_map.specs.Ports.{ArePortsOf}
use Rattle.lw_map.specs.Trading.{AreEarliest, HasLeastArea, IsTradedNetlist}
use Rattle.lw_extract.proofs.PortLists.{port_name, zip_outputs}
use Rattle.lw_map.proofs.NetNames.{names_tell}
use Rattle.lw_map.proofs.PortNames.{port_list, port_names, few_outputs}
use Rattle.lw_map.proofs.Traded.{IsBest, StandsFor-cost, best_area, best_values, tree_back}
use Rattle.lw_map.proofs.NeededGates.{zip_place, gates_needed}
use Rattle.lw_map.proofs.Once.{zip_at}
use Rattle.lw_trade.specs.Traded.{output_nets, port_net}
use Rattle.lw_pool.specs.Numbers.{numbers}
use Rattle.lw_net.specs.Ports.{output_port, ports_of}
use Rattle.lw_netlist.specs.Plain.{plain_port, mapped_ports}

zip_weaker : {X Y : Type 0} (R S : X → Y → Type 0) (xs : List X) (ys : List Y) → ((x : X) (y : Y) → R x y → S x y) → AllZip R xs ys → AllZip S xs ys
zip_weaker R S [] [] f a = tt
zip_weaker R S [] (y ∷ ys) f a = absurd a
zip_weaker R S (x ∷ xs) [] f a = absurd a
zip_weaker R S (x ∷ xs) (y ∷ ys) f (r, a) = (f x y r, zip_weaker R S xs ys f a)

zip_get : {X Y : Type 0} (R : X → Y → Type 0) (xs : List X) (ys : List Y) (k : ℕ) (y : Y) → AllZip R xs ys → slice_get ys k ≡ Some y → (x : X) × (slice_get xs k ≡ Some x) × R x y
zip_get R [] [] k y a e = cc
zip_get R [] (z ∷ ys) k y a e = absurd a
zip_get R (x ∷ xs) [] k y a e = cc
zip_get R (x ∷ xs) (z ∷ ys) zero y (r, a) e = let same : z ≡ y = cc in (x, refl, subst (R x) same r)
zip_get R (x ∷ xs) (z ∷ ys) (suc k) y (r, a) e = zip_get R xs ys k y a e

-- an input has no area
pub leaves_free : (c : Choices) (cells : List CellParts) (pats : List Pattern) (i k : ℕ) → slice_get c.graph.leaves i ≡ Some k → IsLeastCover c.graph pats (area_cost cells) k (Some 0)
leaves_free c cells pats i k at = ((wire i, tt, at, refl), λ other other_is unfolds. omega arith)

leaf_labels : (c : Choices) (cells : List CellParts) (marks : List (Option Mark)) → AreLeastMarks c.graph (area_cost cells) (library_patterns cells) marks → HaveLeafLabels c.graph (area_cost cells) (labels marks)
leaf_labels c cells marks least k i at = by_label (labels marks k) refl (least.least k)
  where
    by_label : (l : Option ℕ) → labels marks k ≡ l → IsLeastCover c.graph (library_patterns cells) (area_cost cells) k l → labels marks k ≡ Some 0
    by_label None e none = absurd (none (wire i) tt at)
    by_label (Some d) e (by, low) = let le = low (wire i) tt at in e ∙ ap Some (omega (arith, le))

module _ (net : NetworkParts) (starts : List Micro) (c : Choices) (cells : List CellParts) (kept : IsNetwork net) (are : AreChoicesOf net c) (marks : List (Option Mark)) (least : AreLeastMarks c.graph (area_cost cells) (library_patterns cells) marks) (ports : Ports) (named : ArePortsOf net c ports) (times : List ℕ) (earliest : AreEarliest (plain_options c.options) cells net starts times) where
  -- each output has a label, where each has a least time
  pub none_lacks : (k : ℕ) → IsFirstUncovered marks ports.roots k → ⊥
  none_lacks k is =
      let there : slice_get (map (λ (p : PlainPort). root_class (plain_options c.options).width (network.plain net) c.graph p.net) (map (output_port net) net.outputs)) k ≡ Some is.root.0 =
      ap (λ (cs : List ℕ). slice_get cs k) (sym (ap numbers named.roots ∙ are.roots)) ∙ slice_get_map (λ (d : ClassId). d.0) ports.roots k is.root is.at in
      let (p, e, same) = slice_get_map_back (λ (p : PlainPort). root_class (plain_options c.options).width (network.plain net) c.graph p.net) (map (output_port net) net.outputs) k is.root.0 there in
      let (o, f, port) = slice_get_map_back (output_port net) net.outputs k p e in
      let low : o.0 < length net.names = subst (λ (q : NetId). q.0 < length net.names) (get_or_from_slice_get net.outputs k o o f) (kept.outputs k o (slice_get_within net.outputs k o f)) in
      let (d, first) = zip_at (λ (output : NetId) (d : ℕ). HasLeastArrival (plain_options c.options).mode (plain_options c.options).width (network.plain net) (library_patterns cells) (timing_of cells starts) output.0 d) net.outputs times k o earliest f in
      let (by, by_is, tree, time) = first.attained in
      let class : root_class (plain_options c.options).width (network.plain net) c.graph o.0 ≡ is.root.0 = ap (λ (q : PlainPort). root_class (plain_options c.options).width (network.plain net) c.graph q.net) port ∙ same in
      let label : labels marks is.root.0 ≡ None = label_at marks is.root.0 ∙ ap (λ (m : Option Mark). option_map (λ (p : PlainMark). p.cost) (option_map plain_mark m)) is.uncovered in
      let no : IsLeastCover c.graph (library_patterns cells) (area_cost cells) is.root.0 None = subst (IsLeastCover c.graph (library_patterns cells) (area_cost cells) is.root.0) label (least.least is.root.0) in
      no by by_is (subst (Unfolds c.graph (tree_of by)) class (tree_back net starts c cells kept are o.0 (tree_of by) low tree))

module _ (net : NetworkParts) (starts : List Micro) (c : Choices) (cells : List CellParts) (kept : IsNetwork net) (are : AreChoicesOf net c) (marks : List (Option Mark)) (least : AreLeastMarks c.graph (area_cost cells) (library_patterns cells) marks) (ports : Ports) (named : ArePortsOf net c ports) (cover : NetlistCover) (is : IsExtractedCover c.graph (area_cost cells) (library_patterns cells) marks ports cover) (times : List ℕ) (earliest : AreEarliest (plain_options c.options) cells net starts times) where
  abbrev gates : List ℕ
  gates = numbers cover.classes

  abbrev class_of : ℕ → ℕ
  class_of o = root_class (plain_options c.options).width (network.plain net) c.graph o

  laid : AreOrdered (netlist.plain cover.netlist) × IsMapped c.graph (area_cost cells).pin_counts (library_patterns cells) (netlist.plain cover.netlist) (class_at c.graph gates)
  laid = ordered_and_mapped c.graph (area_cost cells) (library_patterns cells) (labels marks) (heights marks) (numbers ports.roots) gates is.gate_classes (netlist.plain cover.netlist) is.extracted

  -- an output of the network and its net in the netlist
  record IsPlaced (p q : PlainPort) : Type 0 where
    time : ℕ
    first : HasLeastArrival (plain_options c.options).mode (plain_options c.options).width (network.plain net) (library_patterns cells) (timing_of cells starts) p.net time
    name : p.name ≡ q.name
    net_of : IsNetOf c.graph gates (class_of p.net) q.net
    known : p.net < length net.names

  roots_are : numbers ports.roots ≡ root_classes (plain_options c.options).width (network.plain net) c.graph (map (output_port net) net.outputs)
  roots_are = ap numbers named.roots ∙ are.roots

  names_are : map (λ (port : Port). port.name) cover.netlist.outputs ≡ map port_name (map (output_port net) net.outputs)
  names_are = is.output_names ∙ (named.outputs ∙ sym (port_list net kept net.outputs))

  paired : AllZip (λ p q. (p.name ≡ q.name) × IsNetOf c.graph gates (class_of p.net) q.net) (ports_of net).outputs (mapped_ports cover.netlist).outputs
  paired = zip_outputs (plain_options c.options).width (network.plain net) c.graph gates (map (output_port net) net.outputs) ports.roots cover.netlist.outputs roots_are names_are is.outputs

  known : (k : ℕ) (o : NetId) → slice_get net.outputs k ≡ Some o → o.0 < length net.names
  known k o at = subst (λ (p : NetId). p.0 < length net.names) (get_or_from_slice_get net.outputs k o o at) (kept.outputs k o (slice_get_within net.outputs k o at))

  joined : (outputs : List NetId) (ts : List ℕ) (qs : List PlainPort) → ((k : ℕ) (o : NetId) → slice_get outputs k ≡ Some o → o.0 < length net.names) → AllZip (λ (o : NetId) (d : ℕ). HasLeastArrival (plain_options c.options).mode (plain_options c.options).width (network.plain net) (library_patterns cells) (timing_of cells starts) o.0 d) outputs ts → AllZip (λ p q. (p.name ≡ q.name) × IsNetOf c.graph gates (class_of p.net) q.net) (map (output_port net) outputs) qs → AllZip IsPlaced (map (output_port net) outputs) qs
  joined [] ts [] low a b = tt
  joined [] ts (q ∷ qs) low a b = absurd b
  joined (o ∷ outputs) [] qs low a b = absurd a
  joined (o ∷ outputs) (d ∷ ts) [] low a b = absurd b
  joined (o ∷ outputs) (d ∷ ts) (q ∷ qs) low (f, a) ((n, at), b) =
      (record { time = d; first = f; name = n; net_of = at; known = low 0 o refl }, joined outputs ts qs (λ k p e. low (suc k) p e) a b)

  placed : AllZip IsPlaced (ports_of net).outputs (mapped_ports cover.netlist).outputs
  placed = joined net.outputs times (mapped_ports cover.netlist).outputs known earliest paired

  nets_low : (k net_at : ℕ) → IsNetOf c.graph gates k net_at → net_at < (netlist.plain cover.netlist).inputs + length (netlist.plain cover.netlist).gates
  nets_low k net_at at =
      let lt = slice_get_within (net_classes c.graph gates) net_at k at in
      let both = length-append c.graph.leaves gates in
      let one = is.extracted.one_each in
      let ins = is.extracted.inputs in
      omega (arith, lt, both, one, ins)

  best : (p q : PlainPort) → (at : IsPlaced p q) → IsBest net starts c cells None cover.netlist at.time (class_of p.net) q.net
  best p q at =
      let covers = net_covered c.graph (area_cost cells).pin_counts (library_patterns cells) (netlist.plain cover.netlist) (class_at c.graph gates) laid.0 laid.1 q.net (nets_low (class_of p.net) q.net at.net_of) in
      let class : class_at c.graph gates q.net ≡ class_of p.net = get_or_from_slice_get (net_classes c.graph gates) q.net (class_of p.net) 0 at.net_of in
      let costs = some_net_costs (netlist.plain cover.netlist) laid.0 (area_cost cells) in
      let area = StandsFor-cost (netlist.plain cover.netlist) (area_cost cells) costs.0 costs.1 covers.by q.net covers.stands in
      let label = extracted_costs c.graph (area_cost cells) (library_patterns cells) (labels marks) (heights marks) (numbers ports.roots) gates (netlist.plain cover.netlist) costs.0 is.gate_classes is.extracted costs.1 (leaf_labels c cells marks least) (class_of p.net) q.net at.net_of in
      let low : IsLeastCover c.graph (library_patterns cells) (area_cost cells) (class_of p.net) (Some (slice_index_or costs.0 q.net 0)) = subst (IsLeastCover c.graph (library_patterns cells) (area_cost cells) (class_of p.net)) label (least.least (class_of p.net)) in
      record {
        by = covers.by;
        stands = covers.stands;
        is_cover = covers.is_cover;
        unfolds = subst (λ k. Unfolds c.graph (tree_of covers.by) k) class covers.unfolds;
        in_time = tt;
        best = λ other other_is unfolds soon. subst (λ a. a ≤ cost_of (area_cost cells) other) area (low.1 other other_is unfolds);
      }

  by_depth : AreByDepth (netlist.plain cover.netlist)
  by_depth = extracted_by_depth c.graph (area_cost cells) (library_patterns cells) (labels marks) (heights marks) height (numbers ports.roots) gates (netlist.plain cover.netlist) is.gate_classes is.extracted (leaf_labels c cells marks least)
    where
      height : (k l : ℕ) → labels marks k ≡ Some l → IsHeight (choices_of c.graph (area_cost cells).pin_counts (library_patterns cells)) (area_cost cells) (labels marks) k (heights marks k)
      height k l e =
          let (m, at, cost) = mark_of_label marks k l e in
          let same : m.height ≡ heights marks k = sym (ap (λ o. heights_of (λ d. o) k) at) in
          subst (λ h. IsHeight (choices_of c.graph (area_cost cells).pin_counts (library_patterns cells)) (area_cost cells) (labels_in (costs_of marks)) k h) same (least.heights k m at)

  net_names_are : cover.netlist.names ≡ net_names (input_names net) (output_names net) (numbers ports.roots) gates
  net_names_are = is.names ∙ ap₂ (λ (xs ys : List (List ℕ)). net_names xs ys (numbers ports.roots) gates) named.inputs named.outputs

  inputs_are : cover.netlist.inputs ≡ net.inputs
  inputs_are = is.extracted.inputs ∙ are.graph.written.leaf_count

  one_input : length (input_names net) ≡ net.inputs
  one_input = let n = kept.named in length-take-le net.inputs net.names (omega arith)

  outputs_said : map (λ (p : PlainPort). p.name) (mapped_ports cover.netlist).outputs ≡ output_names net
  outputs_said = by_list cover.netlist.outputs ∙ (is.output_names ∙ named.outputs)
    where
      by_list : (os : List Port) → map (λ (p : PlainPort). p.name) (map plain_port os) ≡ map (λ (port : Port). port.name) os
      by_list [] = refl
      by_list (o ∷ os) = ap (λ (ns : List (List ℕ)). o.name ∷ ns) (by_list os)

  room : IsDistinct bytes_eq (output_names net) → IsNetlist cover.netlist → 1 + (length gates + length (input_names net ++ output_names net)) < 2 ^ 64
  room outputs own =
      let one = is.extracted.one_each in
      let count = length-map cover.netlist.gates netlist.plain_gate in
      let named_all = own.named in
      let few = own.few in
      let outs = few_outputs net kept outputs in
      let listed = length-map net.outputs (name_in net) in
      let both = length-append (input_names net) (output_names net) in
      let also = kept.few in
      let each = kept.named in
      omega (arith, one_input, both)

  -- an output with an input's name is at the input's class
  tied : ArePortNames (network.plain net) (ports_of net) → (i k : ℕ) (name : List ℕ) → slice_get (input_names net) i ≡ Some name → slice_get (map (λ (p : PlainPort). p.name) (map (output_port net) net.outputs)) k ≡ Some name → slice_get (numbers ports.roots) k ≡ slice_get c.graph.leaves i
  tied apart i k name at e =
      let (p, bt, same) = slice_get_map_back (λ (p : PlainPort). p.name) (map (output_port net) net.outputs) k name e in
      let inside : i < net.inputs = (let lt = slice_get_within (input_names net) i name at in omega (arith, lt, one_input)) in
      let place = apart.tied i k p bt (at ∙ ap Some (sym same)) in
      ap (λ (rs : List ℕ). slice_get rs k) roots_are
      ∙ (slice_get_map (λ (p : PlainPort). class_of p.net) (map (output_port net) net.outputs) k p bt
      ∙ (ap (λ o. Some (class_of o)) place
      ∙ (ap (λ f. Some (class_in (listing_of (plain_options c.options).width (network.plain net)) c.graph f)) (input_sop (plain_options c.options).width (network.plain net) i inside) ∙ sym (are.graph.leaves i inside))))

  nameable : IsNetlist cover.netlist → IsDistinct bytes_eq net.names → IsDistinct bytes_eq (input_names net) → IsDistinct bytes_eq (output_names net) → AreNameable (input_names net) (map (λ (p : PlainPort). p.name) (mapped_ports cover.netlist).outputs) c.graph.leaves (numbers ports.roots) gates
  nameable own differ ins outs =
      let apart = port_names net kept differ ins outs in
      let said : map (λ (p : PlainPort). p.name) (map (output_port net) net.outputs) ≡ map (λ (p : PlainPort). p.name) (mapped_ports cover.netlist).outputs = port_list net kept net.outputs ∙ sym outputs_said in
      subst (λ (os : List (List ℕ)). AreNameable (input_names net) os c.graph.leaves (numbers ports.roots) gates) said (record {
        few = subst (λ (os : List (List ℕ)). 1 + (length gates + length (input_names net ++ os)) < 2 ^ 64) (sym (port_list net kept net.outputs)) (room outs own);
        inputs_differ = apart.inputs_differ;
        outputs_differ = apart.outputs_differ;
        tied = tied apart;
        once = gate_once c.graph (area_cost cells) (library_patterns cells) (labels marks) (heights marks) (numbers ports.roots) gates is.gate_classes;
        no_leaf = λ i j k e f. (is.gate_classes.needed i k e).1 (j, f);
      })

  names_apart : IsNetlist cover.netlist → IsDistinct bytes_eq net.names → IsDistinct bytes_eq (input_names net) → IsDistinct bytes_eq (output_names net) → AreNetNames (netlist.plain cover.netlist) cover.netlist.names (mapped_ports cover.netlist)
  names_apart own differ ins outs =
      names_tell (input_names net) c.graph.leaves (numbers ports.roots) gates (netlist.plain cover.netlist) cover.netlist.names (mapped_ports cover.netlist) (nameable own differ ins outs)
      (distinct_leaves (plain_options c.options).mode (plain_options c.options).width (network.plain net) c.graph are.wide.least are.graph)
      (are.graph.written.leaf_count ∙ sym one_input)
      (net_names_are ∙ ap (λ (os : List (List ℕ)). net_names (input_names net) os (numbers ports.roots) gates) (sym outputs_said))
      (own.named ∙ ap (λ m. cover.netlist.inputs + m) (sym (length-map cover.netlist.gates netlist.plain_gate)))
      at_class
    where
      at_class : (k : ℕ) (p : PlainPort) → slice_get (mapped_ports cover.netlist).outputs k ≡ Some p → (d : ℕ) × (slice_get (numbers ports.roots) k ≡ Some d) × (slice_get (c.graph.leaves ++ gates) p.net ≡ Some d)
      at_class k q at =
          let (p, bt, place) = zip_get IsPlaced (ports_of net).outputs (mapped_ports cover.netlist).outputs k q placed at in
          (class_of p.net, ap (λ (rs : List ℕ). slice_get rs k) roots_are ∙ slice_get_map (λ (p : PlainPort). class_of p.net) (map (output_port net) net.outputs) k p bt, place.net_of)

  pub traded_any_time : IsLibrary cells → IsNetlist cover.netlist → netlist.IsOver cells cover.netlist → IsDistinct bytes_eq (output_names net) → IsTradedNetlist (plain_options c.options) cells net starts None cover.netlist
  traded_any_time lib own over outs = record {
    kept = own;
    over = over;
    model_name = is.model ∙ named.model;
    inputs = inputs_are;
    inputs_named = ap (λ (xs : List (List ℕ)). take cover.netlist.inputs xs) net_names_are ∙ take_at (input_names net) (gate_names (output_names net) (numbers ports.roots) (free_names (input_names net ++ output_names net) (length gates)) gates) cover.netlist.inputs (one_input ∙ sym inputs_are);
    outputs_named = zip_weaker IsPlaced (λ p q. p.name ≡ q.name) (ports_of net).outputs (mapped_ports cover.netlist).outputs (λ p q at. at.name) placed;
    values = λ x vs ws right also. zip_weaker IsPlaced (λ p q. slice_get vs p.net ≡ slice_get ws q.net) (ports_of net).outputs (mapped_ports cover.netlist).outputs
        (λ p q at. best_values net starts c cells kept are lib None cover.netlist p.net q.net at.time x vs ws at.known (in_gates (class_of p.net) q.net at.net_of) (best p q at) right also) placed;
    outputs = λ ds areas arrive priced. zip_weaker IsPlaced (λ p q. HasLeastArea (plain_options c.options) cells net starts None cover.netlist p.net q.net (slice_index_or ds q.net 0) (slice_index_or areas q.net 0)) (ports_of net).outputs (mapped_ports cover.netlist).outputs
        (λ p q at. best_area net starts c cells kept are None cover.netlist p.net q.net at.time ds areas at.known at.first (best p q at) arrive priced) placed;
    names = names_apart own;
    own_names = λ name in'. own_names (input_names net) (output_names net) (numbers ports.roots) gates (room outs own) name (subst (λ (ns : List (List ℕ)). Contains ns name) net_names_are in');
    by_depth = by_depth;
    needed = gates_needed c.graph (area_cost cells) (library_patterns cells) (labels marks) (heights marks) (numbers ports.roots) gates is.gate_classes
        (distinct_leaves (plain_options c.options).mode (plain_options c.options).width (network.plain net) c.graph are.wide.least are.graph) (netlist.plain cover.netlist) is.extracted (output_nets cover.netlist) rooted;
  }
    where
      -- the net of a root's class is an output's
      rooted : (d : ℕ) → Contains (numbers ports.roots) d → (m : ℕ) × IsNetOf c.graph gates d m × Contains (output_nets cover.netlist) m
      rooted d held =
          let (root, in', same) = contained_in_map (λ (r : ClassId). r.0) ports.roots d held in
          let (k, at) = contained_at ports.roots root in' in
          let (port, port_at, net_of) = zip_place (λ (r : ClassId) (q : Port). IsNetOf c.graph gates r.0 q.net.0) ports.roots cover.netlist.outputs k root is.outputs at in
          (port.net.0, subst (λ e. IsNetOf c.graph gates e port.net.0) same net_of, at_contained (output_nets cover.netlist) k port.net.0 (slice_get_map port_net cover.netlist.outputs k port port_at))

      in_gates : (k m : ℕ) → IsNetOf c.graph gates k m → m < cover.netlist.inputs + length cover.netlist.gates
      in_gates k m at = let lt = nets_low k m at in let count = length-map cover.netlist.gates netlist.plain_gate in omega (arith, lt, count)
