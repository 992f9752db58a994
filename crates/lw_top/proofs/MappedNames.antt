-- A mapped netlist has names of the format where the network was read, and its gates stand by depth.
use Rattle.std.proofs.Common.{◌+◌, ◌^◌, ◌<◌, ◌≡◌, List, [], ◌∷◌, ◌++◌, length, map, All, refl, ap, ap₂, sym, ◌∙◌, subst, arith, length-append}
use Rattle.std.specs.List.{AllZip, AllByRecursion as Each}
use Rattle.std.proofs.lemmas.List.{length-map, length-take-le}
use Rattle.lw_pool.specs.declared.id.NetId.{NetId}
use Rattle.lw_laws.specs.Headline.{Port as PlainPort}
use Rattle.lw_laws.specs.MappedNetlists.{root_classes}
use Rattle.lw_laws.specs.Netlists.{AreByDepth}
use Rattle.lw_laws.specs.Rounds.{labels_in}
use Rattle.lw_laws.proofs.MappedDepths.{extracted_by_depth}
use Rattle.lw_laws.proofs.NetlistOf.{netlist_leaf_labels}
use Rattle.lw_net.specs.Networks.{NetworkParts, input_names, output_names, name_in}
use Rattle.lw_net.specs.Plain as network
use Rattle.lw_net.specs.Ports.{output_port, ports_of}
use Rattle.lw_blif.specs.declared.parsed.Parsed.{Parsed}
use Rattle.lw_genlib.specs.Cells.{CellParts, IsLibrary}
use Rattle.lw_genlib.specs.Tables.{timing_of, library_patterns}
use Rattle.lw_netlist.specs.declared.gate.Port.{Port}
use Rattle.lw_netlist.specs.Netlists.{NetlistParts}
use Rattle.lw_netlist.specs.Plain as netlist
use Rattle.lw_netlist.specs.Plain.{plain_port, port_name}
use Rattle.lw_mapped.specs.Readable.{IsNamed}
use Rattle.lw_map.specs.Options.{Options, IsWide}
use Rattle.lw_map.specs.Mapped.{IsMappedNetlist}
use Rattle.lw_map.proofs.CellLaws.{delay_patterns}
use Rattle.lw_map.proofs.Names.{mapped_has_names}
use Rattle.lw_map.proofs.PortNames.{few_outputs}
use Rattle.lw_files.proofs.SignalNames.{IsNamed as IsNamedModel}
use Rattle.lw_files.proofs.Kept.{AreKept}
use Rattle.lw_words.specs.Words.{IsSignalName}
use Rattle.lw_top.proofs.NetNames.{nets-named}
use Rattle.lw_frame.proofs.Each.{each-of}

-- the names of outputs side by side
names_beside : (R : PlainPort → PlainPort → Type 0) (net : NetworkParts) (outputs : List NetId) (ports : List Port) → AllZip (λ p q. (p.name ≡ q.name) × R p q) (map (output_port net) outputs) (map plain_port ports) → map port_name ports ≡ map (name_in net) outputs
names_beside R net [] [] z = refl
names_beside R net [] (q ∷ ports) z = absurd z
names_beside R net (o ∷ outputs) [] z = absurd z
names_beside R net (o ∷ outputs) (q ∷ ports) ((e, r), z) = ap₂ (λ n ns. n ∷ ns) (sym e) (names_beside R net outputs ports z)

port_names : (net : NetworkParts) (outputs : List NetId) → map (λ (p : PlainPort). p.name) (map (output_port net) outputs) ≡ map (name_in net) outputs
port_names net [] = refl
port_names net (o ∷ outputs) = ap (λ ns. name_in net o ∷ ns) (port_names net outputs)

module _ (options : Options) (cells : List CellParts) (model : Parsed) (wide : IsWide options) (kept : AreKept model) (lib : IsLibrary cells) (n : NetlistParts) (is : IsMappedNetlist options cells model.network model.starts n) where
  by_depth : AreByDepth (netlist.plain n)
  by_depth =
      extracted_by_depth is.is.graph _ (library_patterns cells) (labels_in is.is.labels) is.is.heights is.is.height (root_classes options.width (network.plain model.network) is.is.graph (ports_of model.network).outputs) is.is.gates (netlist.plain n) is.is.gate_classes is.is.extracted
      (netlist_leaf_labels options.mode options.width (network.plain model.network) (ports_of model.network) (library_patterns cells) (timing_of cells model.starts) _ (netlist.plain n) n.names _ wide.least (delay_patterns cells lib) is.is)

  pub inputs_count : n.inputs ≡ model.network.inputs
  inputs_count = is.is.extracted.inputs ∙ is.is.is_graph.written.leaf_count

  pub outputs_same : map port_name n.outputs ≡ output_names model.network
  outputs_same = names_beside _ model.network model.network.outputs n.outputs is.is.outputs

  room : 1 + (length is.is.gates + length (input_names model.network ++ map (λ (p : PlainPort). p.name) (ports_of model.network).outputs)) < 2 ^ 64
  room =
      let a = length-map n.gates netlist.plain_gate in
      let b = is.kept.few in
      let c = is.kept.named in
      let d = kept.network.named in
      let e = kept.network.few in
      let f = length-take-le model.network.inputs model.network.names (omega arith) in
      let h = few_outputs model.network kept.network kept.fits.outputs in
      let i = length-append (input_names model.network) (map (λ (p : PlainPort). p.name) (ports_of model.network).outputs) in
      let j = ap length (port_names model.network model.network.outputs) in
      let k = length-map model.network.outputs (name_in model.network) in
      let l = is.is.extracted.one_each in
      omega arith

  module _ (named : IsNamedModel model) where
    signals : All IsSignalName n.names
    signals =
        subst (All IsSignalName) (sym is.is.names_are)
        (nets-named (input_names model.network) (map (λ (p : PlainPort). p.name) (ports_of model.network).outputs) (root_classes options.width (network.plain model.network) is.is.graph (ports_of model.network).outputs) is.is.gates room (each-of IsSignalName (input_names model.network) named.inputs)
        (subst (Each IsSignalName) (sym (port_names model.network model.network.outputs)) (each-of IsSignalName (output_names model.network) named.outputs)))

    pub mapped_named : IsNamed n
    mapped_named = record {
      by_depth = by_depth;
      model = subst IsSignalName (sym is.model_name) named.model;
      signals = signals;
      outputs = subst (All IsSignalName) (sym outputs_same) named.outputs;
      names = mapped_has_names options cells model.network model.starts wide kept.network kept.names_differ kept.fits.inputs kept.fits.outputs n is;
    }
