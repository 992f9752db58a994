-- What is accepted is a fastest mapping.
use Rattle.std.proofs.Common.{ℕ, ◌+◌, ◌<◌, ◌≡◌, List, [], ◌∷◌, length, map, All, Contains, Option, Some, None, unwrap_or, option_map, slice_get, slice_index_or, get_or, refl, ap, sym, ◌∙◌, subst, arith}
use Rattle.std.proofs.lemmas.List.{length-map, length-take}
use Rattle.std.proofs.lemmas.Option.{same_Some, slice_get_within, slice_get-get_or, get_or_from_slice_get}
use Rattle.lw_fixed.specs.declared.micro.Micro.{Micro}
use Rattle.lw_pool.specs.declared.id.NetId.{NetId}
use Rattle.lw_laws.specs.Headline.{Port as PlainPort}
use Rattle.lw_laws.specs.Mapped.{IsMapped, IsMappedOver, IsRootedAt, root_class}
use Rattle.lw_laws.specs.Matches.{IsMatchAt}
use Rattle.lw_laws.specs.Modes.{Mode}
use Rattle.lw_laws.specs.Netlists as laws
use Rattle.lw_laws.specs.Netlists.{CellTruth, HaveCellTruths, AreArrivals, AreOrdered}
use Rattle.lw_laws.specs.Networks as nets
use Rattle.lw_laws.specs.Rounds.{labels_in}
use Rattle.lw_laws.proofs.Lists.{contains_all}
use Rattle.lw_laws.proofs.Mapping.{rooted_mapping}
use Rattle.lw_laws.proofs.NetlistValues.{arrivals_once, some_arrivals}
use Rattle.lw_genlib.specs.Tables.{millionths}
use Rattle.lw_label.specs.Delays.{most_time}
use Rattle.lw_net.specs.Networks.{IsNetwork, name_in}
use Rattle.lw_net.specs.Plain as network
use Rattle.lw_netlist.specs.declared.gate.Gate.{Gate}
use Rattle.lw_netlist.specs.declared.gate.Port.{Port}
use Rattle.lw_netlist.specs.Netlists.{IsNetlist, NetlistParts}
use Rattle.lw_netlist.specs.Plain as netlist
use Rattle.lw_check.specs.Claims.{Claim, Arrives, HasSamePorts, IsMatchGate, IsOnTime, class_number, class_of_net, cost_in, label_of_class, net_classes, plain_labels, timing_in}
use Rattle.lw_check.specs.Mappings.{IsFastestMapping, IsKept, IsOverForms}
use Rattle.lw_check.specs.Verdicts.{IsVerdictOn}
use Rattle.lw_check.specs.declared.verdict.Verdict.TheVariants.{Yes}
use Rattle.lw_check.proofs.Places.{zip_places, map_at, from_map, read_map, some_left}
use Rattle.lw_net.specs.Ports.{output_port, ports_of}
use Rattle.lw_netlist.specs.Plain.{plain_port, mapped_ports, port_name}
use Rattle.lw_pool.specs.Numbers.{net_number}

-- a netlist's gates stand in order
pub netlist_ordered : (n : NetlistParts) → IsNetlist n → AreOrdered (netlist.plain n)
netlist_ordered n is j g at =
    let (gate, here, same) = from_map netlist.plain_gate n.gates j g at in
    subst (λ (z : laws.Gate). Rattle.std.specs.List.AllByRecursion (λ p. p < n.inputs + j) z.pins) same
    (contains_all (λ p. p < n.inputs + j) (map net_number gate.pins) (λ p c. before gate.pins p ((is.gates j gate here).before) c))
  where
    before : (pins : List NetId) (p : ℕ) → All (λ (net : NetId). net.0 < n.inputs + j) pins → Contains (map net_number pins) p → p < n.inputs + j
    before pins p all (k, lt, e) =
        let size = length-map pins net_number in
        let (net, at', same) = from_map net_number pins k (get_or (map net_number pins) k p) (slice_get-get_or (map net_number pins) k p lt) in
        let inside = slice_get_within pins k net at' in
        let low = all k net inside in
        let is_net : get_or pins k net ≡ net = get_or_from_slice_get pins k net net at' in
        subst (λ q. q < n.inputs + j) (same ∙ e) (subst (λ (m : NetId). m.0 < n.inputs + j) is_net low)

-- a netlist with the network's ports has its number of inputs
module _ (k : Claim) (network' : IsNetwork k.net) (netlist' : IsNetlist k.mapped.netlist) (ports : HasSamePorts k) where
  pub inputs_beside : k.mapped.netlist.inputs ≡ k.net.inputs
  inputs_beside =
      let a = netlist'.named in
      let b = network'.named in
      let c = ap length ports.inputs in
      let d = length-take k.mapped.netlist.inputs k.mapped.netlist.names in
      let e = length-take k.net.inputs k.net.names in
      omega arith

module _ (k : Claim) (ports : HasSamePorts k) where
  pub same_outputs : length k.mapped.netlist.outputs ≡ length k.net.outputs
  same_outputs =
      let a = ap length ports.outputs in
      let b = length-map k.mapped.netlist.outputs port_name in
      let c = length-map k.net.outputs (name_in k.net) in
      omega arith

module _ (mode : Mode) (width : ℕ) (truth : CellTruth) (k : Claim) (kept : IsKept k) (over : IsOverForms mode width k) (truths : HaveCellTruths (cost_in k).pin_counts truth k.pats) (yes' : IsVerdictOn k Yes) where
  abbrev n : laws.Netlist
  n = netlist.plain k.mapped.netlist

  abbrev net' : nets.Network
  net' = network.plain k.net

  abbrev classes : List (Option ℕ)
  classes = net_classes k.graph k.mapped.cert

  -- the class of a net
  abbrev class : ℕ → ℕ
  class j = unwrap_or (slice_index_or classes j None) 0

  inputs_same : k.mapped.netlist.inputs ≡ k.net.inputs
  inputs_same = inputs_beside k kept.network kept.netlist yes'.0

  class_is : (net : NetId) (c : ℕ) → class_of_net k net ≡ Some c → class net.0 ≡ c
  class_is net c e = ap (λ o. unwrap_or o 0) e

  classes_are : (pins : List NetId) (ps : List ℕ) → map (class_of_net k) pins ≡ map Some ps → map class (map net_number pins) ≡ ps
  classes_are [] [] e = refl
  classes_are [] (p ∷ ps) e = cc
  classes_are (pin ∷ pins) [] e = cc
  classes_are (pin ∷ pins) (p ∷ ps) e =
      let head : class_of_net k pin ≡ Some p = cc in
      let rest : map (class_of_net k) pins ≡ map Some ps = cc in
      let a = class_is pin p head in
      let b = classes_are pins ps rest in
      λ i. a i ∷ b i

  gates_mapped : IsMapped k.graph (cost_in k).pin_counts k.pats n class
  gates_mapped = record {
    inputs = λ i lt.
        let below : i < length k.graph.leaves = let a = over.one_leaf in let b = inputs_same in omega arith in
        let at = slice_get-get_or k.graph.leaves i 0 below in
        let here = some_left k.graph.leaves (map (option_map class_number) k.mapped.cert.nets) i (get_or k.graph.leaves i 0) at in
        at ∙ ap Some (sym (ap (λ o. unwrap_or o 0) here));
    gates = λ j gt at.
        let (gate, here, same) = from_map netlist.plain_gate k.mapped.netlist.gates j gt at in
        subst (λ (z : laws.Gate). IsMatchAt k.graph (cost_in k).pin_counts k.pats (class (n.inputs + j)) z.cell (map class z.pins)) same (gate_matched j gate here);
  }
    where
      gate_matched : (j : ℕ) (gate : Gate) → slice_get k.mapped.netlist.gates j ≡ Some gate → IsMatchAt k.graph (cost_in k).pin_counts k.pats (class (n.inputs + j)) gate.cell.0 (map class (map net_number gate.pins))
      gate_matched j gate here =
          let is : IsMatchGate k gate = yes'.2 j gate here in
          let drives = (kept.netlist.gates j gate here).drives in
          let own : class (n.inputs + j) ≡ is.class = ap class (sym drives) ∙ class_is gate.out is.class is.has_class in
          let pins = classes_are gate.pins is.pins is.have_classes in
          subst (λ c. IsMatchAt k.graph (cost_in k).pin_counts k.pats c gate.cell.0 (map class (map net_number gate.pins))) (sym own)
          (subst (λ ps. IsMatchAt k.graph (cost_in k).pin_counts k.pats is.class gate.cell.0 ps) (sym pins) is.stands)

  ordered : AreOrdered n
  ordered = netlist_ordered k.mapped.netlist kept.netlist

  mapped_over : IsMappedOver mode width net' k.graph k.pats (timing_in k) most_time (plain_labels k.mapped.cert) n class
  mapped_over = record {
    wide = over.wide;
    over = record {
      labelled = record {
        encodes = over.encodes;
        few = (let a = over.one_leaf in let b = kept.network.named in let c = kept.network.few in omega arith);
        patterns = over.patterns;
        potential = yes'.3;
      };
      ordered = ordered;
      mapped = gates_mapped;
    };
  }

  -- the label of a class as a plain number
  plain_label : (c : ℕ) (l : Micro) → label_of_class k c ≡ Some l → labels_in (plain_labels k.mapped.cert) c ≡ Some l.0
  plain_label c l e = read_map (option_map millionths) refl k.mapped.cert.labels c ∙ ap (option_map millionths) e

  module _ (ds : List ℕ) (are : AreArrivals (timing_in k) n ds) where
    arrives_then : (net : NetId) (d : ℕ) → Arrives k net d → slice_index_or ds net.0 0 ≡ d
    arrives_then net d is =
        let one : is.arrivals ≡ ds = arrivals_once n ordered (timing_in k) is.arrivals ds is.are are in
        get_or_from_slice_get ds net.0 d 0 (subst (λ xs. slice_get xs net.0 ≡ Some d) one is.at)

    rooted : (j : ℕ) (output : NetId) (port : Port) → slice_get k.net.outputs j ≡ Some output → slice_get k.mapped.netlist.outputs j ≡ Some port → IsRootedAt width net' k.graph (plain_labels k.mapped.cert) n class ds output.0 port.net.0
    rooted j output port at here =
        let root_at = map_at (λ (o : NetId). root_class width net' k.graph o.0) k.net.outputs j output at in
        let (root, is_root, same) = from_map class_number k.roots j (root_class width net' k.graph output.0) (subst (λ xs. slice_get xs j ≡ Some (root_class width net' k.graph output.0)) (sym over.roots) root_at) in
        let at_root = class_is port.net root.0 (yes'.4 j port root here is_root) in
        let time : IsOnTime k port = yes'.5 j port here in
        let at_time = class_is port.net time.class time.has_class in
        record {
          of_network = (let a = kept.network.named in let b = length-map k.net.nodes network.plain_node in let c = within k.net.outputs (length k.net.names) kept.network.outputs j output at in omega arith);
          rooted = record {
            at_form = record {
              of_netlist = (let a = kept.netlist.named in let b = length-map k.mapped.netlist.gates netlist.plain_gate in let c = port_within j port here in omega arith);
              at_class = at_root ∙ same;
            };
            at_label = ap (labels_in (plain_labels k.mapped.cert)) at_time ∙ (plain_label time.class time.label time.has_label ∙ ap Some (sym (arrives_then port.net time.label.0 time.arrives)));
          };
        }
      where
        within : (outputs : List NetId) (m : ℕ) → All (λ (o : NetId). o.0 < m) outputs → (j : ℕ) (o : NetId) → slice_get outputs j ≡ Some o → o.0 < m
        within outputs m all j o at = subst (λ (x : NetId). x.0 < m) (get_or_from_slice_get outputs j o o at) (all j o (slice_get_within outputs j o at))

        port_within : (j : ℕ) (p : Port) → slice_get k.mapped.netlist.outputs j ≡ Some p → p.net.0 < length k.mapped.netlist.names
        port_within j p at = subst (λ (x : Port). x.net.0 < length k.mapped.netlist.names) (get_or_from_slice_get k.mapped.netlist.outputs j p p at) (kept.netlist.outputs j p (slice_get_within k.mapped.netlist.outputs j p at))

    -- each output has the name of the network's output, and is rooted at its net
    rooted_port : (j : ℕ) (p q : PlainPort) → slice_get (map (output_port k.net) k.net.outputs) j ≡ Some p → slice_get (map plain_port k.mapped.netlist.outputs) j ≡ Some q → (p.name ≡ q.name) × IsRootedAt width net' k.graph (plain_labels k.mapped.cert) n class ds p.net q.net
    rooted_port j p q at here =
        let (output, out_at, out_is) = from_map (output_port k.net) k.net.outputs j p at in
        let (port, port_at, port_is) = from_map plain_port k.mapped.netlist.outputs j q here in
        let names : name_in k.net output ≡ port.name = same_Some (name_in k.net output) port.name (sym (map_at (name_in k.net) k.net.outputs j output out_at) ∙ (ap (λ xs. slice_get xs j) (sym yes'.0.outputs) ∙ map_at port_name k.mapped.netlist.outputs j port port_at)) in (
          ap (λ (x : PlainPort). x.name) (sym out_is) ∙ (names ∙ ap (λ (x : PlainPort). x.name) port_is),
          subst (λ (x : PlainPort). IsRootedAt width net' k.graph (plain_labels k.mapped.cert) n class ds p.net x.net) port_is (subst (λ (x : PlainPort). IsRootedAt width net' k.graph (plain_labels k.mapped.cert) n class ds x.net port.net.0) out_is (rooted j output port out_at port_at)),
        )

  pub accepted_is_mapping : IsFastestMapping mode width truth k
  accepted_is_mapping =
      let (ds, are) = some_arrivals n ordered (timing_in k) in
      record {
        frame = yes'.0.frame;
        mapping_is = rooted_mapping mode width net' k.graph k.pats (timing_in k) most_time (plain_labels k.mapped.cert) n class mapped_over kept.in_order truth truths ds are (ports_of k.net) (mapped_ports k.mapped.netlist) (record {
          inputs = inputs_same;
          input_names = yes'.0.inputs;
          outputs = zip_places (λ (p q : PlainPort). (p.name ≡ q.name) × IsRootedAt width net' k.graph (plain_labels k.mapped.cert) n class ds p.net q.net) (map (output_port k.net) k.net.outputs) (map plain_port k.mapped.netlist.outputs)
              (let a = length-map k.net.outputs (output_port k.net) in let b = length-map k.mapped.netlist.outputs plain_port in let c = same_outputs k yes'.0 in omega arith) (rooted_port ds are);
        });
      }
