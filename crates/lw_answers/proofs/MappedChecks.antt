-- A mapped netlist with its certificate can be written and read back, and a check of it says yes.
use Rattle.std.proofs.Common.{ℕ, suc, ◌+◌, ◌*◌, ◌^◌, ◌<◌, ◌≤◌, ◌≡◌, Bool, true, false, List, [], ◌∷◌, length, map, All, Option, Some, None, slice_get, slice_index_or, refl, ap, sym, ◌∙◌, subst, subst₂, arith, mul-le-mul_right}
use Rattle.std.specs.Prelude.{option_map, IfSome}
use Rattle.std.proofs.lemmas.List.{length-map, get_or_default}
use Rattle.std.proofs.lemmas.List.Elements.{All-nil, All-cons}
use Rattle.std.proofs.lemmas.Option.{get_or_from_slice_get, slice_get_within}
use Rattle.std.proofs.lemmas.Slice.Zip.{AllZip-long}
use Rattle.lw_fixed.specs.declared.micro.Micro.{Micro}
use Rattle.lw_pool.specs.declared.id.ClassId.{ClassId}
use Rattle.lw_pool.specs.declared.id.NetId.{NetId}
use Rattle.lw_laws.specs.Costs.{Cost}
use Rattle.lw_laws.specs.Covers.{Pattern, Timing, tree_of}
use Rattle.lw_laws.specs.Delays.{delay_cost}
use Rattle.lw_laws.specs.Graphs.{Graph, most_classes}
use Rattle.lw_laws.specs.Mapped.{root_class}
use Rattle.lw_laws.specs.MappedNetlists.{root_classes}
use Rattle.lw_laws.specs.Matches.{IsLeastCover}
use Rattle.lw_laws.specs.Networks.{Network}
use Rattle.lw_laws.specs.Rounds.{labels_in}
use Rattle.lw_laws.proofs.Lists.{slice_get_some}
use Rattle.lw_laws.proofs.Numbers.{slice_get_map, slice_get_map_back}
use Rattle.lw_net.specs.Networks.{NetworkParts}
use Rattle.lw_net.specs.Plain as network
use Rattle.lw_net.proofs.Rise.{in_order}
use Rattle.lw_frame.specs.Frames.{Fits}
use Rattle.lw_frame.specs.Starts.{StartsFit}
use Rattle.lw_blif.specs.declared.parsed.Parsed.{Parsed}
use Rattle.lw_genlib.specs.Cells.{CellParts, IsListed, IsLibrary}
use Rattle.lw_genlib.specs.Tables.{timing_of, cell_delays, delays_of_cells, millionths}
use Rattle.lw_graph.specs.Graphs.{IsGraph}
use Rattle.lw_pattern.specs.Libraries.{library_patterns}
use Rattle.lw_label.specs.Delays.{most_time}
use Rattle.lw_label.proofs.CellLaws.{timing_up}
use Rattle.lw_netlist.specs.declared.gate.Gate.{Gate}
use Rattle.lw_netlist.specs.Netlists.{NetlistParts}
use Rattle.lw_netlist.specs.Plain as netlist
use Rattle.lw_netlist.specs.Plain.{HasCell, IsOver}
use Rattle.lw_mapped.specs.declared.certificate.Certificate.{Certificate}
use Rattle.lw_mapped.specs.Parsed.{IsLabel}
use Rattle.lw_mapped.specs.Readable.{IsReadable, IsReadableCertificate, HasReadableCertificate, read_of}
use Rattle.lw_mapped.specs.Standing.{AreLabels}
use Rattle.lw_check.specs.declared.verdict.Verdict.TheVariants as verdict
use Rattle.lw_check.specs.Claims.{Claim}
use Rattle.lw_check.specs.Mappings.{IsKept, IsMappingOf, IsOverGraph}
use Rattle.lw_check.specs.Verdicts.{claim}
use Rattle.lw_check.proofs.Accepting.{mapping_accepted}
use Rattle.lw_map.specs.Options.{Options, IsWide}
use Rattle.lw_map.specs.Mapped.{IsMappedNetlist, IsWithinLimits}
use Rattle.lw_map.proofs.CellLaws.{delay_patterns}
use Rattle.lw_map.proofs.Ranges.{unfolds_low, label_below}
use Rattle.lw_top.specs.Maps.{HasCertificate, IsAskedFor}
use Rattle.lw_top.specs.Checks.{HasVerdict}
use Rattle.lw_answers.specs.Checked.{AreApart}
use Rattle.lw_answers.proofs.FormGraphs.{form_graph}
use Rattle.lw_top.proofs.MappedNames.{inputs_count, outputs_same, mapped_named}
use Rattle.lw_files.proofs.SignalNames.{IsNamed}
use Rattle.lw_files.proofs.Kept.{AreKept}
use Rattle.lw_pool.specs.Numbers.{numbers, net_number}
use Rattle.lw_net.specs.Ports.{output_port, ports_of}
use Rattle.lw_assoc.proofs.Built.{pairs_bound}

-- Classes as numbers.

abbrev pub class_id : ℕ → ClassId
class_id c = record { 0 = c }

pub class_ids : (cs : List ℕ) → numbers (map class_id cs) ≡ cs
class_ids [] = refl
class_ids (c ∷ cs) = ap (λ ds. c ∷ ds) (class_ids cs)

-- the roots' classes by the nets of the outputs
pub roots_again : (width : ℕ) (net : Network) (g : Graph) (parts : NetworkParts) (outputs : List NetId) → root_classes width net g (map (output_port parts) outputs) ≡ map (λ (output : NetId). root_class width net g output.0) outputs
roots_again width net g parts [] = refl
roots_again width net g parts (o ∷ outputs) = ap (λ (cs : List ℕ). root_class width net g o.0 ∷ cs) (roots_again width net g parts outputs)

classes_below : (most : ℕ) (classes : List (Option ClassId)) (gates : List ℕ) → map (option_map (λ (class : ClassId). class.0)) classes ≡ map Some gates → ((j c : ℕ) → slice_get gates j ≡ Some c → c < most) → All (λ class. IfSome class (λ (c : ClassId). c.0 < most)) classes
classes_below most [] gates e low = All-nil (λ class. IfSome class (λ (c : ClassId). c.0 < most))
classes_below most (class ∷ classes) [] e low = cc
classes_below most (None ∷ classes) (g ∷ gates) e low = cc
classes_below most (Some c ∷ classes) (g ∷ gates) e low =
    let head : c.0 ≡ g = cc in
    let tail : map (option_map (λ (class : ClassId). class.0)) classes ≡ map Some gates = cc in
    All-cons (λ class. IfSome class (λ (c : ClassId). c.0 < most)) (Some c) classes (subst (λ k. k < most) (sym head) (low 0 g refl)) (classes_below most classes gates tail (λ j d at. low (suc j) d at))

module _ (options : Options) (cells : List CellParts) (model : Parsed) (wide : IsWide options) (kept : AreKept model) (lib : IsLibrary cells) (within : IsWithinLimits options model.network) (n : NetlistParts) (is : IsMappedNetlist options cells model.network model.starts n) where
  abbrev net : Network
  net = network.plain model.network

  abbrev g : Graph
  g = is.is.graph

  abbrev pats : List Pattern
  pats = library_patterns cells

  abbrev timing : Timing
  timing = timing_of cells model.starts

  abbrev cost : Cost
  cost = delay_cost timing most_time

  -- The graph.

  few_inputs : model.network.inputs < 2 ^ 32
  few_inputs = let a = kept.network.named in let b = kept.network.few in omega arith

  few_classes : length g.pairs ≤ most_classes
  few_classes =
      let few = within.forms in
      let p = pairs_bound 0 g.forms in
      let w = is.is.is_graph.written.class_count in
      let f = is.is.is_graph.written.form_count in
      omega arith

  is_graph : IsGraph g
  is_graph = form_graph options.mode options.width net g wide.least is.is.is_graph few_inputs (let few = few_classes in omega arith)

  -- Labels.

  covered_low : (c l : ℕ) (o : Option ℕ) → IsLeastCover g pats cost c o → o ≡ Some l → c < length g.pairs
  covered_low c l None least e = cc
  covered_low c l (Some d) ((k, k_is, u, costs), low) e = unfolds_low options.mode options.width net g wide.least is.is.is_graph (tree_of k) c u

  label_class : (c l : ℕ) → labels_in is.is.labels c ≡ Some l → c < most_classes
  label_class c l e =
      let low = covered_low c l (labels_in is.is.labels c) (is.is.least c) e in
      let few = few_classes in
      omega arith

  label_small : (c l : ℕ) → labels_in is.is.labels c ≡ Some l → l < 2 ^ 43 * 1000000
  label_small c l e =
      let low = label_below options.mode options.width net g wide.least is.is.is_graph pats timing most_time 1000000000000 few_inputs (delay_patterns cells lib) (timing_up cells lib model.starts kept.fits.starts.early) (omega arith) is.is.labels is.is.least c l e in
      let few = few_classes in
      let room : length g.pairs + 1 ≤ 4194305 = omega arith in
      let more : (length g.pairs + 1) * 1000000000000 ≤ 4194305 * 1000000000000 = mul-le-mul_right {m = length g.pairs + 1} {n = 4194305} 1000000000000 room in
      omega arith

  gate_class : (j c : ℕ) → slice_get is.is.gates j ≡ Some c → c < most_classes
  gate_class j c e =
      let lt = slice_get_within is.is.gates j c e in
      let count = is.is.extracted.one_each in
      let (gt, f) = slice_get_some (netlist.plain n).gates j (omega arith) in
      let (d, m, p, at, chosen, cell, nets) = is.is.extracted.chosen j gt f in
      let same : d ≡ c = cc in
      subst (λ k. k < most_classes) same (label_class d (cost.value p.cell chosen.supports.pin_labels) chosen.supports.value)

  -- Gates.

  over : IsOver cells n
  over k d lt =
      let (gate, e) = slice_get_some n.gates k lt in
      subst (HasCell cells) (sym (get_or_from_slice_get n.gates k gate d e)) (of_gate k gate e)
    where
      of_gate : (j : ℕ) (gate : Gate) → slice_get n.gates j ≡ Some gate → HasCell cells gate
      of_gate j gate at =
          let (c, m, p, class_at, chosen, cell_is, nets) = is.is.extracted.chosen j (netlist.plain_gate gate) (slice_get_map netlist.plain_gate n.gates j gate at) in
          let (delays, delays_at, one_delay) = slice_get_map_back length (delays_of_cells cells) p.cell (length m.pins) chosen.supports.matches.pins in
          let (cell, cell_at, same) = slice_get_map_back cell_delays cells p.cell delays delays_at in
          let listed : IsListed cell = subst IsListed (get_or_from_slice_get cells p.cell cell cell cell_at) (lib.each p.cell cell (slice_get_within cells p.cell cell cell_at)) in
          let nets_of_match = AllZip-long _ m.pins (netlist.plain_gate gate).pins nets in
          let nets_of_gate = length-map gate.pins net_number in
          let delays_of_cell : length cell.delays ≡ length delays = sym (length-map cell.delays millionths) ∙ ap length same in
          record {
            cell = cell;
            at = ap (slice_get cells) cell_is ∙ cell_at;
            pins = sym nets_of_gate ∙ (nets_of_match ∙ (sym one_delay ∙ (sym delays_of_cell ∙ listed.kept.delays)));
          }

  module _ (named : IsNamed model) where
    -- The text.

    readable_by : (certificate : Option Certificate) → HasReadableCertificate (length n.gates) certificate → AreApart cells → IsReadable cells n model.frame model.starts certificate
    readable_by certificate can_be_read apart =
        let names = mapped_named options cells model wide kept lib n is named in
        record {
          library = lib;
          apart = apart;
          netlist = is.kept;
          over = over;
          by_depth = names.by_depth;
          model = names.model;
          signals = names.signals;
          outputs = names.outputs;
          names = names.names;
          frame_fits = subst₂ (λ ins outs. Fits model.frame ins outs) (sym is.is.input_names) (sym (outputs_same options cells model wide kept lib n is)) kept.fits.frame;
          starts_fit = subst (λ k. StartsFit model.frame k model.starts) (sym (inputs_count options cells model wide kept lib n is)) kept.fits.starts;
          latches = named.latches;
          has_certificate = can_be_read;
        }

    module _ (certificate : Certificate) (asked : HasCertificate options cells model.network model.starts n is certificate) where
      -- The certificate.

      label_said : (class : ℕ) (label : Micro) → slice_index_or certificate.labels class None ≡ Some label → labels_in is.is.labels class ≡ Some label.0
      label_said class label e = sym (asked.is_of.labels class) ∙ ap (option_map (λ (l : Micro). l.0)) e

      readable_certificate : IsReadableCertificate (length n.gates) certificate
      readable_certificate = record {
        labels = λ class label e. (label_class class label.0 (label_said class label e), label_small class label.0 (label_said class label e));
        one_each =
            sym (length-map certificate.nets (option_map (λ (class : ClassId). class.0)))
            ∙ (ap length asked.is_of.nets ∙ (length-map is.is.gates Some ∙ (sym is.is.extracted.one_each ∙ length-map n.gates netlist.plain_gate)));
        classes = classes_below most_classes certificate.nets is.is.gates asked.is_of.nets gate_class;
      }

      labels_limited : AreLabels certificate
      labels_limited = record {
        classes = let few = few_classes in let same = asked.one_each in omega arith;
        labels = λ k d lt. subst (λ o. IfSome o IsLabel) (sym (get_or_default certificate.labels k d None lt)) (by_label k (slice_index_or certificate.labels k None) refl);
      }
        where
          by_label : (k : ℕ) (o : Option Micro) → slice_index_or certificate.labels k None ≡ o → IfSome o IsLabel
          by_label k None e = tt
          by_label k (Some label) e = label_small k label.0 (label_said k label e)

      pub readable : AreApart cells → IsReadable cells n model.frame model.starts (Some certificate)
      readable = readable_by (Some certificate) readable_certificate

      -- The verdict.

      abbrev roots : List ℕ
      roots = root_classes options.width net g (ports_of model.network).outputs

      abbrev own : Claim
      own = claim model.network model.frame model.starts cells g pats (map class_id roots) (read_of n model.frame model.starts (Some certificate))

      own_kept : IsKept own
      own_kept = record { network = kept.network; in_order = in_order model.network kept.network; netlist = is.kept; one_class = readable_certificate.one_each }

      own_graph : IsOverGraph options.mode options.width own
      own_graph = record {
        wide = wide.least;
        is_graph = is.is.is_graph;
        kept = is_graph;
        roots = class_ids roots ∙ roots_again options.width net g model.network model.network.outputs;
        patterns = delay_patterns cells lib;
      }

      own_mapping : IsMappingOf options.mode options.width own
      own_mapping = record {
        is = is.is;
        frame = refl;
        certificate = certificate;
        of_mapping = asked.is_of;
        same = record { labels = λ class. refl; nets = refl };
        labels = labels_limited;
      }

      pub accepted_text : HasVerdict options cells model (read_of n model.frame model.starts (Some certificate)) verdict.Yes
      accepted_text = record {
        within = within;
        graph = g;
        is_graph = is.is.is_graph;
        roots = map class_id roots;
        roots_are = class_ids roots;
        is = mapping_accepted options.mode options.width own own_kept own_graph own_mapping;
      }

    -- with the certificate that was asked for, or without one
    pub readable_asked : (certified : Bool) (certificate : Option Certificate) → IsAskedFor options cells model.network model.starts n is certified certificate → AreApart cells → IsReadable cells n model.frame model.starts certificate
    readable_asked false None asked = readable_by None tt
    readable_asked false (Some certificate) asked = absurd asked
    readable_asked true None asked = absurd asked
    readable_asked true (Some certificate) asked = readable_by (Some certificate) (readable_certificate certificate asked)
