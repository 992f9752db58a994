-- A netlist with its certificate can be written and read back, and a check of it says yes.
use Rattle.std.proofs.Common.{ℕ, suc, ◌+◌, ◌*◌, ◌^◌, ◌<◌, ◌≤◌, ◌≡◌, List, [], ◌∷◌, ◌++◌, length, map, All, Option, Some, None, slice_get, slice_index_or, refl, ap, ap₂, sym, ◌∙◌, subst, subst₂, arith, mul-le-mul_right, length-append}
use Rattle.std.specs.Prelude.{option_map, IfSome}
use Rattle.std.specs.List.{AllZip, AllByRecursion as Each}
use Rattle.std.proofs.lemmas.List.{length-map, length-take-le, get_or_default}
use Rattle.std.proofs.lemmas.List.Elements.{All-nil, All-cons}
use Rattle.std.proofs.lemmas.Option.{get_or_from_slice_get, slice_get_within}
use Rattle.lw_facts.proofs.Lists.{get_right, index_at, some_within}
use Rattle.lw_words.specs.Words.{IsSignalName}
use Rattle.lw_fixed.specs.declared.micro.Micro.{Micro}
use Rattle.lw_pool.specs.Numbers.{net_number}
use Rattle.lw_pool.specs.declared.id.ClassId.{ClassId}
use Rattle.lw_pool.specs.declared.id.NetId.{NetId}
use Rattle.lw_laws.specs.Costs.{Cost}
use Rattle.lw_laws.specs.Covers.{Pattern, Timing, tree_of}
use Rattle.lw_laws.specs.Delays.{delay_cost}
use Rattle.lw_laws.specs.Extracts.{class_at, net_classes}
use Rattle.lw_laws.specs.Graphs.{Graph, most_classes}
use Rattle.lw_laws.specs.Headline.{CoversForms, IsMapping, Port as PlainPort}
use Rattle.lw_laws.specs.Listings.{Listing, listing_of}
use Rattle.lw_laws.specs.MappedNetlists.{AreNetNames, IsMatchNetlistOfForms, root_classes}
use Rattle.lw_laws.specs.Matches.{IsLeastCover}
use Rattle.lw_laws.specs.Networks.{Network}
use Rattle.lw_laws.specs.Netlists.{AreByDepth, Netlist}
use Rattle.lw_laws.specs.Rounds.{labels_in}
use Rattle.lw_laws.proofs.Lists.{slice_get_some}
use Rattle.lw_laws.proofs.MappedNames.{match_names_are}
use Rattle.lw_laws.proofs.Netlists.{net_covered}
use Rattle.lw_laws.proofs.Numbers.{slice_get_map, slice_get_map_back}
use Rattle.lw_net.specs.Networks.{NetworkParts, input_names, output_names, name_in}
use Rattle.lw_net.specs.Plain as network
use Rattle.lw_net.specs.Ports.{output_port, ports_of}
use Rattle.lw_net.proofs.Rise.{in_order}
use Rattle.lw_frame.specs.Frames.{Fits}
use Rattle.lw_frame.specs.Starts.{StartsFit}
use Rattle.lw_frame.proofs.Each.{each-of}
use Rattle.lw_blif.specs.declared.parsed.Parsed.{Parsed}
use Rattle.lw_genlib.specs.Cells.{CellParts, IsListed, IsLibrary}
use Rattle.lw_genlib.specs.Tables.{cell_delays, delays_of_cells, millionths, timing_of, truth_of_cells}
use Rattle.lw_graph.specs.Graphs.{IsGraph}
use Rattle.lw_assoc.proofs.Built.{pairs_bound}
use Rattle.lw_pattern.specs.Libraries.{library_patterns}
use Rattle.lw_label.specs.Delays.{most_time}
use Rattle.lw_label.proofs.CellLaws.{timing_up}
use Rattle.lw_netlist.specs.declared.gate.Gate.{Gate}
use Rattle.lw_netlist.specs.declared.gate.Port.{Port}
use Rattle.lw_netlist.specs.Netlists.{IsNetlist, NetlistParts}
use Rattle.lw_netlist.specs.Plain as netlist
use Rattle.lw_netlist.specs.Plain.{HasCell, IsOver, mapped_ports, plain_port, port_name}
use Rattle.lw_mapped.specs.declared.certificate.Certificate.{Certificate}
use Rattle.lw_mapped.specs.Parsed.{IsLabel}
use Rattle.lw_mapped.specs.Readable.{IsReadable, IsReadableCertificate, read_of}
use Rattle.lw_mapped.specs.Standing.{AreLabels}
use Rattle.lw_files.proofs.Kept.{AreKept}
use Rattle.lw_files.proofs.SignalNames.{IsNamed}
use Rattle.lw_check.specs.declared.verdict.Verdict.TheVariants as verdict
use Rattle.lw_check.specs.Claims.{Claim}
use Rattle.lw_check.specs.Mappings.{IsKept, IsOverGraph, IsTimelyNetlist}
use Rattle.lw_check.specs.Verdicts.{claim}
use Rattle.lw_check.proofs.Accepting.{timely_accepted}
use Rattle.lw_check.proofs.Places.{read_map}
use Rattle.lw_map.specs.Checks.{HasVerdict}
use Rattle.lw_map.specs.Options.{IsWide, Options}
use Rattle.lw_map.specs.Mapped.{IsWithinLimits}
use Rattle.lw_map.proofs.CellLaws.{delay_patterns}
use Rattle.lw_map.proofs.PortNames.{few_outputs, port_list, port_names}
use Rattle.lw_map.proofs.Ranges.{label_below, unfolds_low}
use Rattle.lw_answers.specs.Checked.{AreApart}
use Rattle.lw_answers.proofs.FormGraphs.{form_graph}
use Rattle.lw_answers.proofs.MappedChecks.{class_id, class_ids, roots_again}
use Rattle.lw_top.proofs.NetNames.{nets-named}
use Rattle.lw_area.specs.Recovered.{IsCertificateOver, class_number, form_in}
use Rattle.lw_area.specs.Words.{Settings}

-- the names of outputs side by side
names_beside : (net : NetworkParts) (outputs : List NetId) (ports : List Port) → AllZip (λ (p q : PlainPort). p.name ≡ q.name) (map (output_port net) outputs) (map plain_port ports) → map port_name ports ≡ map (name_in net) outputs
names_beside net [] [] z = refl
names_beside net [] (q ∷ ports) z = absurd z
names_beside net (o ∷ outputs) [] z = absurd z
names_beside net (o ∷ outputs) (q ∷ ports) (e, z) = ap₂ (λ (n : List ℕ) (ns : List (List ℕ)). n ∷ ns) (sym e) (names_beside net outputs ports z)

classes_below : (most : ℕ) (classes : List (Option ClassId)) (gates : List ℕ) → map (option_map class_number) classes ≡ map Some gates → ((j c : ℕ) → slice_get gates j ≡ Some c → c < most) → All (λ class. IfSome class (λ (c : ClassId). c.0 < most)) classes
classes_below most [] gates e low = All-nil (λ class. IfSome class (λ (c : ClassId). c.0 < most))
classes_below most (class ∷ classes) [] e low = cc
classes_below most (None ∷ classes) (g ∷ gates) e low = cc
classes_below most (Some c ∷ classes) (g ∷ gates) e low =
    let head : c.0 ≡ g = cc in
    let tail : map (option_map class_number) classes ≡ map Some gates = cc in
    All-cons (λ class. IfSome class (λ (c : ClassId). c.0 < most)) (Some c) classes (subst (λ k. k < most) (sym head) (low 0 g refl)) (classes_below most classes gates tail (λ j d at. low (suc j) d at))

-- what is known of a netlist over a listing of forms
pub record IsOverListing (settings : Settings) (cells : List CellParts) (parts : NetworkParts) (starts : List Micro) (o : Listing) (n : NetlistParts) : Type 0 where
  pub kept : IsNetlist n
  pub model_name : n.model ≡ parts.model
  pub covers : CoversForms settings.options.mode settings.options.width o.signals (form_in settings parts) (network.plain parts) (ports_of parts) (library_patterns cells) (timing_of cells starts) (truth_of_cells cells) (netlist.plain n) (mapped_ports n)
  pub matches : IsMatchNetlistOfForms settings.options.mode parts.inputs o (form_in settings parts) (ports_of parts) (library_patterns cells) (map length (timing_of cells starts).delays) (netlist.plain n) n.names (mapped_ports n)
  pub by_depth : AreByDepth (netlist.plain n)

-- Over the forms of one network alone.
module _ (settings : Settings) (cells : List CellParts) (model : Parsed) (wide : IsWide settings.options) (kept : AreKept model) (lib : IsLibrary cells) (within : IsWithinLimits settings.options model.network) (n : NetlistParts) (is : IsOverListing settings cells model.network model.starts (listing_of settings.options.width (network.plain model.network)) n) where
  abbrev options : Options
  options = settings.options

  abbrev net : Network
  net = network.plain model.network

  abbrev own : Netlist
  own = netlist.plain n

  abbrev g : Graph
  g = is.matches.graph

  abbrev gates : List ℕ
  gates = is.matches.gates

  abbrev pats : List Pattern
  pats = library_patterns cells

  abbrev timing : Timing
  timing = timing_of cells model.starts

  abbrev cost : Cost
  cost = delay_cost timing most_time

  -- The graph.

  few_inputs : model.network.inputs < 2 ^ 32
  few_inputs = let a = kept.network.named in let b = kept.network.few in omega arith

  few_classes : length g.pairs ≤ most_classes
  few_classes =
      let few = within.forms in
      let p = pairs_bound 0 g.forms in
      let w = is.matches.is_graph.written.class_count in
      let f = is.matches.is_graph.written.form_count in
      omega arith

  is_graph : IsGraph g
  is_graph = form_graph options.mode options.width net g wide.least is.matches.is_graph few_inputs (let few = few_classes in omega arith)

  -- Gates.

  over : IsOver cells n
  over k d lt =
      let (gate, e) = slice_get_some n.gates k lt in
      subst (HasCell cells) (sym (get_or_from_slice_get n.gates k gate d e)) (of_gate k gate e)
    where
      of_gate : (j : ℕ) (gate : Gate) → slice_get n.gates j ≡ Some gate → HasCell cells gate
      of_gate j gate at =
          let pins = map net_number gate.pins in
          let stands = is.matches.matches.mapped.gates j (netlist.plain_gate gate) (slice_get_map netlist.plain_gate n.gates j gate at) in
          let (delays, delays_at, one_delay) = slice_get_map_back length (delays_of_cells cells) gate.cell.0 (length (map (class_at g gates) pins)) stands.pins in
          let (cell, cell_at, same) = slice_get_map_back cell_delays cells gate.cell.0 delays delays_at in
          let listed : IsListed cell = subst IsListed (get_or_from_slice_get cells gate.cell.0 cell cell cell_at) (lib.each gate.cell.0 cell (slice_get_within cells gate.cell.0 cell cell_at)) in
          let delays_of_cell : length cell.delays ≡ length delays = sym (length-map cell.delays millionths) ∙ ap length same in
          record {
            cell = cell;
            at = cell_at;
            pins = sym (length-map gate.pins net_number) ∙ (sym (length-map pins (class_at g gates)) ∙ (sym one_delay ∙ (sym delays_of_cell ∙ listed.kept.delays)));
          }

  gate_class : (j c : ℕ) → slice_get gates j ≡ Some c → c < most_classes
  gate_class j c at =
      let inside : own.inputs + j < own.inputs + length own.gates = let a = is.matches.matches.one_each in let b = slice_get_within gates j c at in omega arith in
      let by = net_covered g (map length timing.delays) pats own (class_at g gates) is.matches.matches.ordered is.matches.matches.mapped (own.inputs + j) inside in
      let here : slice_get (net_classes g gates) (own.inputs + j) ≡ Some c = subst (λ i. slice_get (net_classes g gates) (i + j) ≡ Some c) (sym is.matches.matches.inputs) (get_right g.leaves gates j c at) in
      let low = unfolds_low options.mode options.width net g wide.least is.matches.is_graph (tree_of by.by) (class_at g gates (own.inputs + j)) by.unfolds in
      let same = index_at (net_classes g gates) (own.inputs + j) c here in
      let few = few_classes in
      omega arith

  -- Names.

  outputs_same : map port_name n.outputs ≡ output_names model.network
  outputs_same = names_beside model.network model.network.outputs n.outputs is.covers.output_names

  few_names : 1 + (length own.gates + (length (input_names model.network) + length (map (output_port model.network) model.network.outputs))) < 2 ^ 64
  few_names =
      let a = length-map n.gates netlist.plain_gate in
      let b = is.kept.few in
      let c = is.kept.named in
      let d = kept.network.named in
      let e = kept.network.few in
      let f = length-take-le model.network.inputs model.network.names (omega arith) in
      let h = length-map model.network.outputs (output_port model.network) in
      let i = few_outputs model.network kept.network kept.fits.outputs in
      omega arith

  names_are : AreNetNames own n.names (mapped_ports n)
  names_are =
      match_names_are options.mode options.width net (ports_of model.network) pats (map length timing.delays) own n.names (mapped_ports n) wide.least is.matches
      (port_names model.network kept.network kept.names_differ kept.fits.inputs kept.fits.outputs) few_names

  room : 1 + (length gates + length (input_names model.network ++ map (λ (p : PlainPort). p.name) (ports_of model.network).outputs)) < 2 ^ 64
  room =
      let few = few_names in
      let one = is.matches.matches.one_each in
      let i = length-append (input_names model.network) (map (λ (p : PlainPort). p.name) (ports_of model.network).outputs) in
      let j = length-map (ports_of model.network).outputs (λ (p : PlainPort). p.name) in
      omega arith

  abbrev roots : List ℕ
  roots = root_classes options.width net g (ports_of model.network).outputs

  -- The certificate.

  module _ (certificate : Certificate) (asked : IsCertificateOver cells model.starts g gates certificate) where
    abbrev labels : List (Option ℕ)
    labels = map (option_map millionths) certificate.labels

    labels_are : (class : ℕ) → labels_in labels class ≡ option_map millionths (slice_index_or certificate.labels class None)
    labels_are class = read_map (option_map millionths) refl certificate.labels class

    least : (class : ℕ) → IsLeastCover g pats cost class (labels_in labels class)
    least class = subst (IsLeastCover g pats cost class) (sym (labels_are class)) (asked.least class)

    label_class : (class : ℕ) (label : Micro) → slice_index_or certificate.labels class None ≡ Some label → class < most_classes
    label_class class label e = let lt = some_within certificate.labels class label e in let same = asked.one_each in let few = few_classes in omega arith

    label_small : (class : ℕ) (label : Micro) → slice_index_or certificate.labels class None ≡ Some label → IsLabel label
    label_small class label e =
        let low = label_below options.mode options.width net g wide.least is.matches.is_graph pats timing most_time 1000000000000 few_inputs (delay_patterns cells lib) (timing_up cells lib model.starts kept.fits.starts.early) (omega arith) labels least class label.0 (labels_are class ∙ ap (option_map millionths) e) in
        let few = few_classes in
        let next : length g.pairs + 1 ≤ 4194305 = omega arith in
        let more : (length g.pairs + 1) * 1000000000000 ≤ 4194305 * 1000000000000 = mul-le-mul_right {m = length g.pairs + 1} {n = 4194305} 1000000000000 next in
        omega arith

    readable_certificate : IsReadableCertificate (length n.gates) certificate
    readable_certificate = record {
      labels = λ class label e. (label_class class label e, label_small class label e);
      one_each =
          sym (length-map certificate.nets (option_map class_number))
          ∙ (ap length asked.classes ∙ (length-map gates Some ∙ (sym is.matches.matches.one_each ∙ length-map n.gates netlist.plain_gate)));
      classes = classes_below most_classes certificate.nets gates asked.classes gate_class;
    }

    labels_limited : AreLabels certificate
    labels_limited = record {
      classes = let few = few_classes in let same = asked.one_each in omega arith;
      labels = λ k d lt. subst (λ o. IfSome o IsLabel) (sym (get_or_default certificate.labels k d None lt)) (by_label k (slice_index_or certificate.labels k None) refl);
    }
      where
        by_label : (k : ℕ) (o : Option Micro) → slice_index_or certificate.labels k None ≡ o → IfSome o IsLabel
        by_label k None e = tt
        by_label k (Some label) e = label_small k label e

    -- The text.

    pub readable : IsNamed model → AreApart cells → IsReadable cells n model.frame model.starts (Some certificate)
    readable named apart = record {
      library = lib;
      apart = apart;
      netlist = is.kept;
      over = over;
      by_depth = is.by_depth;
      model = subst IsSignalName (sym is.model_name) named.model;
      signals =
          subst (All IsSignalName) (sym is.matches.names_are)
          (nets-named (input_names model.network) (map (λ (p : PlainPort). p.name) (ports_of model.network).outputs) roots gates room (each-of IsSignalName (input_names model.network) named.inputs)
          (subst (Each IsSignalName) (sym (port_list model.network kept.network model.network.outputs)) (each-of IsSignalName (output_names model.network) named.outputs)));
      outputs = subst (All IsSignalName) (sym outputs_same) named.outputs;
      names = names_are;
      frame_fits = subst₂ (λ ins outs. Fits model.frame ins outs) (sym is.covers.input_names) (sym outputs_same) kept.fits.frame;
      starts_fit = subst (λ k. StartsFit model.frame k model.starts) (sym is.covers.inputs) kept.fits.starts;
      latches = named.latches;
      has_certificate = readable_certificate;
    }

    -- The verdict.

    abbrev own_claim : Claim
    own_claim = claim model.network model.frame model.starts cells g pats (map class_id roots) (read_of n model.frame model.starts (Some certificate))

    claim_kept : IsKept own_claim
    claim_kept = record { network = kept.network; in_order = in_order model.network kept.network; netlist = is.kept; one_class = readable_certificate.one_each }

    claim_graph : IsOverGraph options.mode options.width own_claim
    claim_graph = record {
      wide = wide.least;
      is_graph = is.matches.is_graph;
      kept = is_graph;
      roots = class_ids roots ∙ roots_again options.width net g model.network model.network.outputs;
      patterns = delay_patterns cells lib;
    }

    pub accepted : IsMapping options.mode options.width net (ports_of model.network) pats timing (truth_of_cells cells) own (mapped_ports n) → HasVerdict options cells model (read_of n model.frame model.starts (Some certificate)) verdict.Yes
    accepted mapping_is =
        let timely : IsTimelyNetlist options.mode options.width own_claim = record {
          is = is.matches;
          frame = refl;
          labels = labels;
          least = least;
          labels_are = λ class. sym (labels_are class);
          classes_are = asked.classes;
          limits = labels_limited;
          timely = mapping_is.arrivals;
        } in
        record {
          within = within;
          graph = g;
          is_graph = is.matches.is_graph;
          roots = map class_id roots;
          roots_are = class_ids roots;
          is = timely_accepted options.mode options.width own_claim claim_kept claim_graph timely;
        }
