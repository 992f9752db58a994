-- What the layers give one after another is the fastest cover of a network over the graph of several.
use Rattle.std.proofs.Common.{ℕ, ◌+◌, ◌<◌, ◌≤◌, ◌≡◌, ◌⊎◌, inl, inr, List, map, length, Option, Some, None, option_map, slice_get, slice_index_or, refl, ap, sym, ◌∙◌, subst, arith}
use Rattle.std.specs.List.{IsDistinct}
use Rattle.std.specs.Prelude.{All}
use Rattle.std.specs.Str.{bytes_eq}
use Rattle.std.proofs.lemmas.List.{length-map, length-take-le}
use Rattle.std.proofs.lemmas.Option.{slice_get_within}
use Rattle.lw_pool.specs.declared.id.ClassId.{ClassId}
use Rattle.lw_pool.specs.declared.id.NetId.{NetId}
use Rattle.lw_pool.specs.Numbers.{numbers}
use Rattle.lw_fixed.specs.declared.micro.Micro.{Micro}
use Rattle.lw_laws.specs.Forms.{Form}
use Rattle.lw_laws.specs.Listings.{IsListed, Listing}
use Rattle.lw_laws.specs.SignalValues.{IsSoundListing}
use Rattle.lw_laws.specs.Graphs.{Unfolds, most_classes}
use Rattle.lw_laws.specs.Classes.{class_in}
use Rattle.lw_laws.specs.Covers.{ArePatterns, Pattern, tree_of}
use Rattle.lw_laws.specs.Matches.{IsLeastCover}
use Rattle.lw_laws.specs.Rounds.{labels_in}
use Rattle.lw_laws.specs.Marks.{Mark as PlainMark}
use Rattle.lw_laws.specs.Headline.{Port as PlainPort}
use Rattle.lw_laws.specs.MappedNetlists.{form_classes}
use Rattle.lw_laws.proofs.GraphEncodes.{forms_trees}
use Rattle.lw_net.specs.Networks.{IsNetwork, NetworkParts, input_names, name_in, output_names, output_port}
use Rattle.lw_net.specs.Plain as network
use Rattle.lw_genlib.specs.Cells.{CellParts}
use Rattle.lw_genlib.specs.Tables.{delays_of_cells, timing_of}
use Rattle.lw_pattern.specs.Libraries.{library_patterns}
use Rattle.lw_cost.specs.declared.mark.Mark.{Mark}
use Rattle.lw_cost.specs.Values.{plain_mark}
use Rattle.lw_cost.specs.Labels.{AreLeastMarks, cost_in, costs_of}
use Rattle.lw_cost.proofs.MarksAsLabels.{label_at}
use Rattle.lw_label.specs.Delays.{most_time, time_cost}
use Rattle.lw_netlist.specs.Netlists.{IsNetlist}
use Rattle.lw_netlist.specs.Plain.{IsOver, plain as plain_netlist, plain_gate}
use Rattle.lw_extract.specs.declared.fault.ExtractFault.{ExtractFault}
use Rattle.lw_extract.specs.declared.fault.ExtractFault.TheVariants as extract
use Rattle.lw_extract.specs.declared.ports.Ports.{Ports}
use Rattle.lw_extract.specs.declared.ports.Cover.{Cover as NetlistCover}
use Rattle.lw_extract.specs.Choosing.{heights}
use Rattle.lw_extract.specs.Covers.{AreFit, IsExtractedCover, IsFirstUncovered}
use Rattle.lw_map.specs.declared.fault.MapFault.{MapFault}
use Rattle.lw_map.specs.declared.fault.MapFault.TheVariants as map_fault
use Rattle.lw_map.specs.Options.{Options}
use Rattle.lw_map.specs.Ports.{ArePortsOf}
use Rattle.lw_map.proofs.Composed.{port_names}
use Rattle.lw_map.proofs.GateCount.{few_gates}
use Rattle.lw_map.proofs.PortNames.{few_outputs, in_range, net_in_range, output_at, root_at}
use Rattle.lw_joined.specs.declared.choices.Joined.{Joined}
use Rattle.lw_joined.specs.Choices.{IsJoined}
use Rattle.lw_joined.specs.Covering.{IsCoverFault, IsCoveredBy, IsFastestOver, IsFirstUncoveredOver, IsLackOver, IsUncoveredOver, options_of}
use Rattle.lw_joined.specs.Joins.{joined_listing, own_form}
use Rattle.lw_joined.proofs.FormCovers.{cover_is_netlist, start_is_least}
use Rattle.lw_joined.proofs.Joins.{join_is_sound, own_listed}

-- what a network is mapped over
module _ (net : NetworkParts) (j : Joined) (is : IsJoined net j) where
  abbrev pub options : Options
  options = options_of j

  abbrev pub listing : Listing
  listing = joined_listing options.width (network.plain j.union) is.links

  abbrev pub form : ℕ → Form
  form = own_form options.width (network.plain net)

  pub sound : IsSoundListing net.inputs listing
  sound = join_is_sound options.width (network.plain net) (network.plain j.union) is.links is.wide.least is.is_join

  pub form_listed : (s : ℕ) → s < net.inputs + length (map network.plain_node net.nodes) → IsListed listing (form s)
  form_listed = own_listed options.width (network.plain net) (network.plain j.union) is.links is.wide.least is.is_join

  -- the start of an input is the least time of the input's class
  pub leaves_least : (cells : List CellParts) (starts : List Micro) (pats : List Pattern) → pats ≡ library_patterns cells → ArePatterns (map length (delays_of_cells cells)) (library_patterns cells) → (i k : ℕ) → slice_get j.choices.graph.leaves i ≡ Some k → IsLeastCover j.choices.graph pats (time_cost cells starts) k (Some ((time_cost cells starts).leaf i))
  leaves_least cells starts pats pats_are patterns i k at =
      subst (λ ps. IsLeastCover j.choices.graph ps (time_cost cells starts) k (Some ((time_cost cells starts).leaf i))) (sym pats_are) (start_is_least options.mode net.inputs listing j.choices.graph sound is.graph (library_patterns cells) (timing_of cells starts) most_time patterns i k at)

module _ (net : NetworkParts) (j : Joined) (ports : Ports) (kept : IsNetwork net) (named : ArePortsOf net j.choices ports) where
  some_names : length (input_names net) ≡ net.inputs
  some_names = let n = kept.named in length-take-le net.inputs net.names (omega arith)

  roots_of : (is : IsJoined net j) → numbers ports.roots ≡ form_classes (listing net j is) (form net j is) j.choices.graph (map (output_port net) net.outputs)
  roots_of is = ap numbers named.roots ∙ is.roots

  pub ports_fit : IsJoined net j → IsDistinct bytes_eq (output_names net) → AreFit j.choices.graph ports
  ports_fit is outputs_differ =
      let leaves = is.graph.written.leaf_count in
      let n = kept.named in
      let m = kept.few in
      let low = few_outputs net kept outputs_differ in
      let few = is.few in
      let outputs : length ports.outputs ≡ length net.outputs = ap length named.outputs ∙ length-map net.outputs (name_in net) in
      let ports_count : length (map (output_port net) net.outputs) ≡ length net.outputs = length-map net.outputs (output_port net) in
      let roots : length ports.roots ≡ length net.outputs = sym (length-map ports.roots (λ (k : ClassId). k.0)) ∙ (ap length (roots_of is) ∙ (length-map (map (output_port net) net.outputs) (λ (p : PlainPort). class_in (listing net j is) j.choices.graph (form net j is p.net)) ∙ ports_count)) in
      record {
        few = few;
        few_inputs = omega arith;
        few_outputs = omega arith;
        one_name = ap length named.inputs ∙ (some_names ∙ sym leaves);
        one_root = roots ∙ sym outputs;
        in_range = subst (λ (roots : List ClassId). All (λ (root : ClassId). root.0 < length j.choices.graph.pairs) roots) (sym named.roots) is.in_range;
      }

  module _ (cells : List CellParts) (starts : List Micro) (pats : List Pattern) (marks : List (Option Mark)) (pats_are : pats ≡ library_patterns cells) (least : AreLeastMarks j.choices.graph (time_cost cells starts) pats marks) where
    own_least : AreLeastMarks j.choices.graph (time_cost cells starts) (library_patterns cells) marks
    own_least = subst (λ ps. AreLeastMarks j.choices.graph (time_cost cells starts) ps marks) pats_are least

    cover_fastest : (cover : NetlistCover) → IsNetlist cover.netlist → IsExtractedCover j.choices.graph (time_cost cells starts) pats marks ports cover → (is : IsJoined net j) → IsFastestOver cells net starts j is (record { cover = cover; labels = marks })
    unfolding cover_is_netlist
    cover_fastest cover own extracted is = record {
      kept = own;
      model_name = extracted.model ∙ named.model;
      netlist = cover_is_netlist (options_of j).mode net.inputs (listing net j is) (form net j is) j.choices.graph (library_patterns cells) (timing_of cells starts) most_time marks ports cover (input_names net) (map (output_port net) net.outputs)
          is.graph own_least (subst (λ ps. IsExtractedCover j.choices.graph (time_cost cells starts) ps marks ports cover) pats_are extracted) some_names named.inputs (named.outputs ∙ port_names net net.outputs) (roots_of is);
      graph = refl;
      labels = refl;
      gates = refl;
    }

    -- there are few gates
    gates_few : length j.choices.graph.pairs ≤ most_classes → (cover : NetlistCover) → IsExtractedCover j.choices.graph (time_cost cells starts) pats marks ports cover → length cover.netlist.gates ≤ most_classes
    gates_few few cover is =
        let n = few_gates j.choices.graph (time_cost cells starts) pats (costs_of marks) (heights marks) (numbers ports.roots) (numbers cover.classes) is.gate_classes (plain_netlist cover.netlist) is.extracted in
        let count : length (plain_netlist cover.netlist).gates ≡ length cover.netlist.gates = length-map cover.netlist.gates plain_gate in
        let labels_count : length (costs_of marks) ≡ length marks = length-map marks cost_in in
        let one = least.one_each in
        omega (arith, n)

    pub cover_covers : length j.choices.graph.pairs ≤ most_classes → (cover : NetlistCover) → IsNetlist cover.netlist → IsOver cells cover.netlist → IsExtractedCover j.choices.graph (time_cost cells starts) pats marks ports cover → IsCoveredBy cells net starts j (record { cover = cover; labels = marks })
    cover_covers few cover own over extracted = record {
      fastest = cover_fastest cover own extracted;
      least = own_least;
      over = over;
      few = gates_few few cover extracted;
    }

    module _ (is : IsJoined net j) where
      abbrev class_of_net : ℕ → ℕ
      class_of_net n = class_in (listing net j is) j.choices.graph (form net j is n)

      abbrev class_of_output : NetId → ℕ
      class_of_output o = class_of_net o.0

      -- an output whose class has no mark has no cover
      no_mark : (o : NetId) (k : ℕ) → o.0 < length net.names → k ≡ class_of_output o → slice_index_or marks k None ≡ None → IsUncoveredOver cells net starts j is o
      no_mark o k lt same none by by_is tree =
          let label : labels_in (costs_of marks) k ≡ None = label_at marks k ∙ ap (λ (m : Option Mark). option_map (λ (p : PlainMark). p.cost) (option_map plain_mark m)) none in
          let no : IsLeastCover j.choices.graph (library_patterns cells) (time_cost cells starts) k None = subst (IsLeastCover j.choices.graph (library_patterns cells) (time_cost cells starts) k) label (own_least.least k) in
          no by by_is (subst (Unfolds j.choices.graph (tree_of by)) (sym same) ((forms_trees (options_of j).mode net.inputs (listing net j is) j.choices.graph (sound net j is) is.graph (form net j is o.0) (tree_of by) (form_listed net j is o.0 (net_in_range net kept o lt))).1 tree))

      -- an output whose class has a mark has one
      some_mark : (o : NetId) (k : ℕ) (m : Mark) → o.0 < length net.names → k ≡ class_of_output o → slice_index_or marks k None ≡ Some m → IsUncoveredOver cells net starts j is o → ⊥
      some_mark o k m lt same some lacks =
          let label : labels_in (costs_of marks) k ≡ Some m.cost = label_at marks k ∙ ap (λ (n : Option Mark). option_map (λ (p : PlainMark). p.cost) (option_map plain_mark n)) some in
          let has : IsLeastCover j.choices.graph (library_patterns cells) (time_cost cells starts) k (Some m.cost) = subst (IsLeastCover j.choices.graph (library_patterns cells) (time_cost cells starts) k) label (own_least.least k) in
          let (by, by_is, u, cost) = has.0 in
          lacks by by_is ((forms_trees (options_of j).mode net.inputs (listing net j is) j.choices.graph (sound net j is) is.graph (form net j is o.0) (tree_of by) (form_listed net j is o.0 (net_in_range net kept o lt))).0 (subst (Unfolds j.choices.graph (tree_of by)) same u))

      -- the first root without a mark is that of the first output without a cover
      first_lack : (k : ℕ) → IsFirstUncovered marks ports.roots k → IsFirstUncoveredOver cells net starts j is k
      first_lack k un =
          let (o, at, lt, same) = output_at net kept ports.roots class_of_net (roots_of is) k un.root un.at in
          record {
            output = o;
            at = at;
            lacks = no_mark o un.root.0 lt same un.uncovered;
            first = λ i other below e lacks.
                let (root, f, is_root) = root_at net kept ports.roots class_of_net (roots_of is) i other e in
                let (m, marked) = un.first i root below f in
                some_mark other root.0 m (in_range net kept i other e) is_root marked lacks;
          }

    pub lack_over : (fault : ExtractFault) → ((k : ℕ) → fault ≡ extract.NoCover k → IsFirstUncovered marks ports.roots k) → IsLackOver cells net starts j fault
    lack_over (extract.NoCover k) first = λ is. first_lack is k (first k refl)
    lack_over extract.Memory first = tt

module _ (cells : List CellParts) (net : NetworkParts) (starts : List Micro) (j : Joined) (k : ℕ) (lack : (is : IsJoined net j) → IsFirstUncoveredOver cells net starts j is k) where
  pub lack_within : IsJoined net j → k < length net.outputs
  lack_within is = slice_get_within net.outputs k (lack is).output (lack is).at

  -- the fault names that output
  pub lack_named : (fault : MapFault) → IsJoined net j → ((o : NetId) → slice_get net.outputs k ≡ Some o → (fault ≡ map_fault.Memory) ⊎ (fault ≡ map_fault.NoCover (name_in net o))) → IsCoverFault cells net starts j fault
  lack_named fault own named =
      by (lack own).output (lack own).at (named (lack own).output (lack own).at)
    where
      by : (o : NetId) → slice_get net.outputs k ≡ Some o → (fault ≡ map_fault.Memory) ⊎ (fault ≡ map_fault.NoCover (name_in net o)) → IsCoverFault cells net starts j fault
      by o at (inl same) = subst (IsCoverFault cells net starts j) (sym same) tt
      by o at (inr same) =
          subst (IsCoverFault cells net starts j) (sym same) (λ is.
          let l = lack is in
          let one : o ≡ l.output = cc (at, l.at) in
          record { place = k; lack = l; named = ap (name_in net) one })

pub lack_refused : (cells : List CellParts) (net : NetworkParts) (starts : List Micro) (j : Joined) → IsJoined net j → (fault : ExtractFault) (e : MapFault) → IsLackOver cells net starts j fault → ((k : ℕ) (o : NetId) → fault ≡ extract.NoCover k → slice_get net.outputs k ≡ Some o → (e ≡ map_fault.Memory) ⊎ (e ≡ map_fault.NoCover (name_in net o))) → (fault ≡ extract.Memory → e ≡ map_fault.Memory) → IsCoverFault cells net starts j e
lack_refused cells net starts j own (extract.NoCover k) e lacks named memory = lack_named cells net starts j k lacks e own (λ o at. named k o refl at)
lack_refused cells net starts j own extract.Memory e lacks named memory = subst (IsCoverFault cells net starts j) (sym (memory refl)) tt
