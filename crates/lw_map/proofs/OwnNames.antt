-- The names of the nets of a netlist of least area: which they are, and that they differ.
use Rattle.std.proofs.Common.{ℕ, ◌+◌, ◌^◌, ◌<◌, ◌≡◌, if◌then◌else◌, List, [], ◌∷◌, ◌++◌, map, take, length, Contains, Some, slice_get, refl, ap, sym, ◌∙◌, subst, arith, length-append}
use Rattle.std.specs.List.{IsDistinct, range_with_len}
use Rattle.std.specs.Str.{bytes_eq}
use Rattle.std.proofs.lemmas.List.{length-map, length-take-le, take_at}
use Rattle.std.proofs.lemmas.List.FromFn.{length-range_with_len}
use Rattle.std.proofs.lemmas.Option.{slice_get_within}
use Rattle.lw_pool.specs.declared.id.ClassId.{ClassId}
use Rattle.lw_fixed.specs.declared.micro.Micro.{Micro}
use Rattle.lw_laws.specs.Names.{AreDifferent, AreNameable, free_names, gate_names, net_names}
use Rattle.lw_laws.specs.Classes.{class_in}
use Rattle.lw_laws.specs.Listings.{listing_of}
use Rattle.lw_laws.specs.MappedNetlists.{AreNetNames, ArePortNames}
use Rattle.lw_laws.specs.Headline.{Port as PlainPort}
use Rattle.lw_laws.proofs.InputClasses.{distinct_leaves}
use Rattle.lw_laws.proofs.MappedNames.{input_sop}
use Rattle.lw_laws.proofs.NameLaws.{names_differ, names_owned}
use Rattle.lw_laws.proofs.Lists.{slice_get_some}
use Rattle.lw_laws.proofs.Numbers.{slice_get_map, slice_get_map_back}
use Rattle.lw_naming.proofs.GivenNames.{IsOwnName, own_names}
use Rattle.lw_net.specs.Networks.{NetworkParts, IsNetwork, name_in, input_names, output_names}
use Rattle.lw_net.specs.Plain as network
use Rattle.lw_genlib.specs.Cells.{CellParts, IsLibrary}
use Rattle.lw_netlist.specs.declared.gate.Port.{Port}
use Rattle.lw_netlist.specs.Netlists.{NetlistParts, IsNetlist}
use Rattle.lw_netlist.specs.Plain as netlist
use Rattle.lw_extract.specs.declared.ports.Ports.{Ports}
use Rattle.lw_trade.specs.Traded.{IsTraded, output_nets, port_net}
use Rattle.lw_map.specs.declared.choices.Choices.{Choices}
use Rattle.lw_map.specs.Options.{plain_options}
use Rattle.lw_map.specs.Choices.{AreChoicesOf}
use Rattle.lw_map.specs.Ports.{ArePortsOf}
use Rattle.lw_map.specs.Trading.{AreEarliest, IsTradedNetlist, micros, put_off}
use Rattle.lw_map.proofs.Traded.{class_of_net}
use Rattle.lw_map.proofs.Deadlines.{s, targets}
use Rattle.lw_map.proofs.TradedNames.{range_back, range_some, ranges_back, place_of, outputs_count, outputs_named_at, traded_outputs, traded_values, traded_output_names}
use Rattle.lw_map.proofs.PortNames.{few_outputs, port_list, port_names}
use Rattle.lw_net.specs.Ports.{output_port, ports_of}
use Rattle.lw_netlist.specs.Plain.{plain_port, mapped_ports, port_name}

module _ (net : NetworkParts) (starts : List Micro) (c : Choices) (cells : List CellParts) (kept : IsNetwork net) (are : AreChoicesOf net c) (times : List Micro) (deadline : Micro) (earliest : AreEarliest (plain_options c.options) cells net starts (micros times)) (ports : Ports) (named : ArePortsOf net c ports) (later : List Micro) (later_are : later ≡ map (put_off deadline) times) (n : NetlistParts) (own : IsNetlist n) (is : IsTraded (s net starts c cells kept are times deadline earliest) (targets net starts c cells kept are times deadline earliest ports named later later_are) n) (outputs_differ : IsDistinct bytes_eq (output_names net)) where
  abbrev gates_of : List ℕ
  gates_of = range_with_len n.inputs (length n.gates)

  names_are : n.names ≡ net_names (input_names net) (output_names net) (output_nets n) gates_of
  names_are = is.names ∙ (ap (λ (ns : List (List ℕ)). net_names ns ports.outputs (output_nets n) gates_of) named.inputs ∙ ap (λ (ns : List (List ℕ)). net_names (input_names net) ns (output_nets n) gates_of) named.outputs)

  inputs_count : length (input_names net) ≡ net.inputs
  inputs_count = let m = kept.named in length-take-le net.inputs net.names (omega arith)

  pub inputs_same : n.inputs ≡ net.inputs
  inputs_same = is.inputs ∙ are.graph.written.leaf_count

  room : 1 + (length gates_of + length (input_names net ++ output_names net)) < 2 ^ 64
  room =
      let a = length-range_with_len n.inputs (length n.gates) in
      let b = own.few in
      let d = own.named in
      let e = kept.named in
      let f = kept.few in
      let g = inputs_count in
      let h = length-map net.outputs (name_in net) in
      let k = few_outputs net kept outputs_differ in
      omega (arith, length-append (input_names net) (output_names net))

  pub traded_own_names : (name : List ℕ) → Contains n.names name → IsOwnName (input_names net) (output_names net) name
  traded_own_names name holds =
      own_names (input_names net) (output_names net) (output_nets n) gates_of room name (subst (λ ns. Contains ns name) names_are holds)

  module _ (differ : IsDistinct bytes_eq net.names) (inputs_differ : IsDistinct bytes_eq (input_names net)) where
    apart : ArePortNames (network.plain net) (ports_of net)
    apart = port_names net kept differ inputs_differ outputs_differ

    tied : (i k : ℕ) (name : List ℕ) → slice_get (input_names net) i ≡ Some name → slice_get (output_names net) k ≡ Some name → slice_get (output_nets n) k ≡ slice_get (range_with_len 0 n.inputs) i
    tied i k name at bt =
        let (o, e, named_is) = slice_get_map_back (name_in net) net.outputs k name bt in
        let p_at = slice_get_map (output_port net) net.outputs k o e in
        let lt = slice_get_within net.outputs k o e in
        let count = outputs_count net starts c cells kept are times deadline earliest ports named later later_are n own is in
        let (port, port_at) = slice_get_some n.outputs k (omega arith) in
        let x = place_of net starts c cells kept are times deadline earliest ports named later later_are n own is k (output_port net o) (plain_port port) p_at (slice_get_map plain_port n.outputs k port port_at) in
        let place : o.0 ≡ i = apart.tied i k (output_port net o) p_at (at ∙ ap Some (sym named_is)) in
        let in' = slice_get_within (input_names net) i name at in
        let c1 = inputs_count in
        let inside : i < net.inputs = omega arith in
        let width = (plain_options c.options).width in
        let class : x.root.0 ≡ class_in (listing_of width (network.plain net)) c.graph (Rattle.lw_laws.specs.Forms.Form.var_form i) =
        x.class_is ∙ (ap (class_of_net net starts c cells kept are) place ∙ ap (class_in (listing_of width (network.plain net)) c.graph) (input_sop width (network.plain net) i inside)) in
        let leaf : slice_get c.graph.leaves i ≡ Some x.root.0 = are.graph.leaves i inside ∙ ap Some (sym class) in
        let there = is.tied k i x.root port (ap (λ (rs : List ClassId). slice_get rs k) named.roots ∙ x.root_at) port_at leaf in
        let same : port.net.0 ≡ i = distinct_leaves (plain_options c.options).mode width (network.plain net) c.graph are.wide.least are.graph port.net.0 i x.root.0 there leaf in
        let c2 = inputs_same in
        let none : 0 + i ≡ i = omega arith in
        slice_get_map port_net n.outputs k port port_at ∙ (ap Some same ∙ sym (range_some 0 n.inputs i (omega arith) ∙ ap Some none))

    nameable : AreNameable (input_names net) (output_names net) (range_with_len 0 n.inputs) (output_nets n) gates_of
    nameable = record {
      few = room;
      inputs_differ = apart.inputs_differ;
      outputs_differ = subst AreDifferent (port_list net kept net.outputs) apart.outputs_differ;
      tied = tied;
      once = λ i j d at bt. let (e, lt) = range_back n.inputs (length n.gates) i d at in let (f, gt) = range_back n.inputs (length n.gates) j d bt in omega arith;
      no_leaf = λ i j d at bt. let (e, lt) = range_back n.inputs (length n.gates) i d at in let (f, gt) = range_back 0 n.inputs j d bt in omega arith;
    }

    owned : (j k : ℕ) (p : PlainPort) → slice_get (map plain_port n.outputs) k ≡ Some p → slice_get n.names j ≡ Some p.name → j ≡ p.net
    owned j k p at e =
        let (port, port_at, port_is) = slice_get_map_back plain_port n.outputs k p at in
        let net_is : port.net.0 ≡ p.net = ap (λ (r : PlainPort). r.net) port_is in
        let count = outputs_count net starts c cells kept are times deadline earliest ports named later later_are n own is in
        let lt = slice_get_within n.outputs k port port_at in
        let (o, o_at) = slice_get_some net.outputs k (omega arith) in
        let name_is : name_in net o ≡ p.name = outputs_named_at net starts c cells kept are times deadline earliest ports named later later_are n own is k (output_port net o) p (slice_get_map (output_port net) net.outputs k o o_at) at in
        let a = length-range_with_len 0 n.inputs in
        let b = inputs_same in
        let d = inputs_count in
        let here = names_owned (input_names net) (output_names net) (range_with_len 0 n.inputs) (output_nets n) gates_of nameable (omega arith) j k p.name (ap (λ (ns : List (List ℕ)). slice_get ns j) (sym names_are) ∙ e) (slice_get_map (name_in net) net.outputs k o o_at ∙ ap Some name_is) in
        let none : n.inputs ≡ 0 + n.inputs = omega arith in
        let back = ranges_back 0 n.inputs (length n.gates) j port.net.0 (subst (λ m. slice_get (range_with_len 0 n.inputs ++ range_with_len m (length n.gates)) j ≡ Some port.net.0) none (here ∙ slice_get_map port_net n.outputs k port port_at)) in
        omega arith

    pub traded_names : AreNetNames (netlist.plain n) n.names (mapped_ports n)
    traded_names = record {
      one_each = own.named ∙ ap (λ m. n.inputs + m) (sym (length-map n.gates netlist.plain_gate));
      nets_differ = subst AreDifferent (sym names_are) (names_differ (input_names net) (output_names net) (range_with_len 0 n.inputs) (output_nets n) gates_of nameable);
      outputs_differ = subst AreDifferent (sym outs) nameable.outputs_differ;
      owned = owned;
    }
      where
        list_names : (ps : List Port) → map (λ (p : PlainPort). p.name) (map plain_port ps) ≡ map port_name ps
        list_names [] = refl
        list_names (p ∷ ps) = ap (λ (ns : List (List ℕ)). p.name ∷ ns) (list_names ps)

        outs : map (λ (p : PlainPort). p.name) (map plain_port n.outputs) ≡ output_names net
        outs = list_names n.outputs ∙ (is.output_names ∙ named.outputs)

  module _ (lib : IsLibrary cells) where
    inputs_named : take n.inputs n.names ≡ input_names net
    inputs_named =
        let count : n.inputs ≡ length (input_names net) = inputs_same ∙ sym inputs_count in
        ap (λ (xs : List (List ℕ)). take n.inputs xs) names_are ∙ take_at (input_names net) (gate_names (output_names net) (output_nets n) (free_names (input_names net ++ output_names net) (length gates_of)) gates_of) n.inputs (sym count)

    -- the netlist of the targets is one of the network
    pub netlist_traded : IsTradedNetlist (plain_options c.options) cells net starts (Some deadline) n
    netlist_traded = record {
      kept = own;
      over = is.over;
      model_name = is.model ∙ named.model;
      inputs = inputs_same;
      inputs_named = inputs_named;
      outputs_named = traded_output_names net starts c cells kept are times deadline earliest ports named later later_are n own is;
      values = traded_values net starts c cells kept are times deadline earliest ports named later later_are n own is lib;
      outputs = traded_outputs net starts c cells kept are times deadline earliest ports named later later_are n own is;
      names = λ differ inputs_differ outs. traded_names differ inputs_differ;
      own_names = traded_own_names;
      by_depth = is.by_depth;
      needed = is.needed;
    }
