-- The labels of the outputs' classes are the outputs' least times.
use Rattle.std.proofs.Common.{ℕ, ◌^◌, ◌<◌, ◌≡◌, List, [], map, length, Option, Some, None, option_map, slice_get, slice_index_or, refl, ap, sym, ◌∙◌, subst, arith}
use Rattle.std.specs.List.{IsDistinct}
use Rattle.std.specs.Prelude.{All}
use Rattle.std.specs.Str.{bytes_eq}
use Rattle.std.proofs.lemmas.List.{length-map}
use Rattle.std.proofs.lemmas.Option.{get_or_from_slice_get, slice_get_within}
use Rattle.lw_pool.specs.declared.id.NetId.{NetId}
use Rattle.lw_pool.specs.declared.id.ClassId.{ClassId}
use Rattle.lw_fixed.specs.declared.micro.Micro.{Micro}
use Rattle.lw_laws.specs.Matches.{IsLeastCover}
use Rattle.lw_laws.specs.Rounds.{labels_in}
use Rattle.lw_laws.specs.Marks.{Mark as PlainMark}
use Rattle.lw_laws.specs.Headline.{Port as PlainPort, HasLeastArrival}
use Rattle.lw_laws.specs.Mapped.{root_class}
use Rattle.lw_laws.proofs.GraphEncodes.{graph_encodes}
use Rattle.lw_laws.proofs.NetlistOf.{root_least}
use Rattle.lw_laws.proofs.Lists.{slice_get_some}
use Rattle.lw_laws.proofs.Numbers.{slice_get_map, slice_get_map_back}
use Rattle.lw_net.specs.Networks.{NetworkParts, IsNetwork, input_names, output_names}
use Rattle.lw_net.specs.Plain as network
use Rattle.lw_genlib.specs.Cells.{CellParts, IsLibrary, IsSmall}
use Rattle.lw_genlib.specs.Tables.{timing_of}
use Rattle.lw_pattern.specs.Libraries.{library_patterns}
use Rattle.lw_cost.specs.declared.mark.Mark.{Mark}
use Rattle.lw_cost.specs.Values.{plain_mark}
use Rattle.lw_label.specs.Delays.{most_time, time_cost}
use Rattle.lw_cost.specs.Labels.{costs_of, AreLeastMarks}
use Rattle.lw_cost.proofs.MarksAsLabels.{label_at}
use Rattle.lw_map.specs.declared.choices.Choices.{Choices}
use Rattle.lw_map.specs.Options.{plain_options}
use Rattle.lw_extract.specs.declared.ports.Ports.{Ports}
use Rattle.lw_map.specs.Choices.{AreChoicesOf}
use Rattle.lw_map.specs.Ports.{ArePortsOf}
use Rattle.lw_map.proofs.Composed.{ports_fit}
use Rattle.lw_map.specs.Trading.{AreEarliest, HaveLabelsTo, micros}
use Rattle.lw_map.proofs.Mappings.{labels_low}
use Rattle.lw_map.proofs.Traded.{zip_places}
use Rattle.lw_net.specs.Ports.{output_port}

-- the ports of a network
abbrev pub ports_for : NetworkParts → Choices → Ports
ports_for net c = record { model = net.model; inputs = input_names net; outputs = output_names net; roots = c.roots }

pub are_ports : (net : NetworkParts) (c : Choices) → ArePortsOf net c (ports_for net c)
are_ports net c = record { model = refl; inputs = refl; outputs = refl; roots = refl }

pub roots_low : (net : NetworkParts) (c : Choices) → IsNetwork net → AreChoicesOf net c → IsDistinct bytes_eq (output_names net) → length c.roots < 2 ^ 32
roots_low net c kept are differ =
    let fit = ports_fit net [] c (ports_for net c) kept are (are_ports net c) differ in
    let few = fit.few_outputs in
    let one = fit.one_root in
    omega arith

module _ (net : NetworkParts) (starts : List Micro) (c : Choices) (cells : List CellParts) (kept : IsNetwork net) (are : AreChoicesOf net c) (early : All IsSmall starts) (lib : IsLibrary cells) (marks : List (Option Mark)) (least : AreLeastMarks c.graph (time_cost cells starts) (library_patterns cells) marks) where
  label_of : (k : ℕ) (m : Mark) → slice_index_or marks k None ≡ Some m → labels_in (costs_of marks) k ≡ Some m.cost
  label_of k m some = label_at marks k ∙ ap (λ (n : Option Mark). option_map (λ (p : PlainMark). p.cost) (option_map plain_mark n)) some

  low_of : (k : ℕ) (m : Mark) → slice_index_or marks k None ≡ Some m → m.cost < most_time
  low_of k m some = labels_low (plain_options c.options) cells net starts are.wide kept early lib are.within.forms c.graph are.graph (costs_of marks) least.least k m.cost (label_of k m some)

  pub roots_count : length c.roots ≡ length net.outputs
  roots_count =
      sym (length-map c.roots (λ (d : ClassId). d.0))
      ∙ (ap length are.roots ∙ (length-map (map (output_port net) net.outputs) (λ (p : PlainPort). root_class (plain_options c.options).width (network.plain net) c.graph p.net) ∙ length-map net.outputs (output_port net)))

  module _ (labels : List Micro) (have : HaveLabelsTo marks c.roots (length c.roots) labels) where
    pub all_low : All (λ (l : Micro). l.0 < 9223372036854775808) labels
    all_low k d lt =
        let n = have.count in
        let (root, at) = slice_get_some c.roots k (omega arith) in
        let (m, marked, label) = have.each k root (omega arith) at in
        let low = low_of root.0 m marked in
        subst (λ (x : Micro). x.0 < 9223372036854775808) (sym (get_or_from_slice_get labels k (record { 0 = m.cost }) d label)) (omega arith)

    first_of : (k : ℕ) (o : NetId) (d : ℕ) → slice_get net.outputs k ≡ Some o → slice_get (micros labels) k ≡ Some d → HasLeastArrival (plain_options c.options).mode (plain_options c.options).width (network.plain net) (library_patterns cells) (timing_of cells starts) o.0 d
    first_of k o d at bt =
        let n = roots_count in
        let lt = slice_get_within net.outputs k o at in
        let class : ℕ = root_class (plain_options c.options).width (network.plain net) c.graph o.0 in
        let there : slice_get (map (λ (x : ClassId). x.0) c.roots) k ≡ Some class = ap (λ (cs : List ℕ). slice_get cs k) are.roots ∙ slice_get_map (λ (p : PlainPort). root_class (plain_options c.options).width (network.plain net) c.graph p.net) (map (output_port net) net.outputs) k (output_port net o) (slice_get_map (output_port net) net.outputs k o at) in
        let (root, ct, same) = slice_get_map_back (λ (x : ClassId). x.0) c.roots k class there in
        let (m, marked, label) = have.each k root (omega arith) ct in
        let there_too : slice_get (micros labels) k ≡ Some m.cost = slice_get_map (λ (x : Micro). x.0) labels k (record { 0 = m.cost }) label in
        let value : m.cost ≡ d = cc in
        let known : o.0 < length net.names = subst (λ (q : NetId). q.0 < length net.names) (get_or_from_slice_get net.outputs k o o at) (kept.outputs k o lt) in
        let p = kept.named in
        let q = length-map net.nodes network.plain_node in
        let is : IsLeastCover c.graph (library_patterns cells) (time_cost cells starts) class (Some m.cost) = subst (λ x. IsLeastCover c.graph (library_patterns cells) (time_cost cells starts) x (Some m.cost)) same (subst (IsLeastCover c.graph (library_patterns cells) (time_cost cells starts) root.0) (label_of root.0 m marked) (least.least root.0)) in
        subst (HasLeastArrival (plain_options c.options).mode (plain_options c.options).width (network.plain net) (library_patterns cells) (timing_of cells starts) o.0) value
        (root_least (plain_options c.options).mode (plain_options c.options).width (network.plain net) c.graph (library_patterns cells) (timing_of cells starts) most_time are.wide.least (graph_encodes (plain_options c.options).mode (plain_options c.options).width (network.plain net) c.graph are.wide.least are.graph) o.0 (omega arith) m.cost (low_of root.0 m marked) is)

    pub labels_earliest : AreEarliest (plain_options c.options) cells net starts (micros labels)
    labels_earliest = zip_places (λ (output : NetId) (d : ℕ). HasLeastArrival (plain_options c.options).mode (plain_options c.options).width (network.plain net) (library_patterns cells) (timing_of cells starts) output.0 d) net.outputs (micros labels)
        (let a = roots_count in let b = have.count in let e = length-map labels (λ (x : Micro). x.0) in omega arith) first_of
