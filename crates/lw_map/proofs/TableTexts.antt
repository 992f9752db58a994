-- The text of the tables that a network comes to is read as a mapping of the network.
use Rattle.std.proofs.Common.{ℕ, ◌+◌, ◌*◌, ◌^◌, ◌<◌, ◌≤◌, ◌≡◌, ◌++◌, List, length, Some, slice_get, ap, sym, ◌∙◌, subst, arith, length-append}
use Rattle.std.specs.List.{IsDistinct}
use Rattle.std.specs.Prelude.{All}
use Rattle.std.specs.Str.{bytes_eq}
use Rattle.std.proofs.lemmas.List.{length-map, length-take-le}
use Rattle.std.proofs.lemmas.Option.{get_or_from_slice_get}
use Rattle.lw_pool.specs.declared.id.ClassId.{ClassId}
use Rattle.lw_pool.specs.declared.latch.Frame.{Frame}
use Rattle.lw_frame.specs.Frames.{Fits}
use Rattle.lw_laws.specs.Trees.{leaf}
use Rattle.lw_laws.specs.MappedNetlists.{ArePortNames}
use Rattle.lw_laws.proofs.Lists.{slice_get_some}
use Rattle.lw_laws.proofs.Numbers.{slice_get_map}
use Rattle.lw_net.specs.Networks.{NetworkParts, IsNetwork, name_in, output_names}
use Rattle.lw_net.specs.Plain as network
use Rattle.lw_form.specs.Limits.{most_bases}
use Rattle.lw_lut_text.specs.Meaning.{ArePortsOf}
use Rattle.lw_lut.specs.Nets.{PlainTableNet}
use Rattle.lw_lut_text.specs.Readable.{AreSayablePorts, IsSayable}
use Rattle.lw_lut.specs.declared.table.Table.{Table}
use Rattle.lw_lut.proofs.FormDepths.{some_depth}
use Rattle.lw_lut_text.proofs.MadeTables.{made_are_sayable}
use Rattle.lw_lut.proofs.NetsPlaced.{few_nets}
use Rattle.lw_lut_text.proofs.PortsFit.{ports_apart, roots_known}
use Rattle.lw_lut.proofs.TableNets.{outs_below}
use Rattle.lw_map.specs.Options.{Options, IsWide}
use Rattle.lw_map.specs.Mapped.{IsWithinLimits}
use Rattle.lw_map.specs.Tabled.{AreLeaves, HasReadableNames, IsTabled}
use Rattle.lw_map.proofs.PortNames.{few_outputs, has_ports, port_list}
use Rattle.lw_map.proofs.Ranges.{unfolds_low}
use Rattle.lw_words.specs.Words.{IsSignalName}
use Rattle.lw_net.specs.Ports.{ports_of}
use Rattle.lw_assoc.proofs.Built.{pairs_bound}

module _ (options : Options) (most : ℕ) (net : NetworkParts) (n : PlainTableNet) (wide : IsWide options) (within : IsWithinLimits options net) (kept : IsNetwork net) (is : IsTabled options most net n) where
  pub ports_are : ArePortsOf options.width (network.plain net) (ports_of net) is.graph n.ports
  ports_are = record {
    inputs = is.inputs;
    outputs = is.outputs ∙ sym (port_list net kept net.outputs);
    roots = is.roots;
  }

  -- there are few classes
  classes_few : length is.graph.pairs ≤ 2 * most_bases
  classes_few =
      let p = pairs_bound 0 is.graph.forms in
      let w = is.is_graph.written.class_count in
      let f = is.is_graph.written.form_count in
      let few = within.forms in
      omega arith

  -- the class of an input is one of the graph's
  input_below : All (λ (c : ClassId). c.0 < length is.graph.pairs) n.inputs
  input_below k d lt =
      let (c, at) = slice_get_some n.inputs k lt in
      let there : slice_get is.graph.leaves k ≡ Some c.0 = ap (λ (cs : List ℕ). slice_get cs k) (sym is.is_net.inputs) ∙ slice_get_map (λ (x : ClassId). x.0) n.inputs k c at in
      let low = unfolds_low options.mode options.width (network.plain net) is.graph wide.least is.is_graph (leaf k) c.0 there in
      subst (λ (x : ClassId). x.0 < length is.graph.pairs) (sym (get_or_from_slice_get n.inputs k c d at)) low

  -- there are few tables
  tables_few : length n.tables ≤ 2 * most_bases
  tables_few =
      let known = roots_known options.mode options.width (network.plain net) (ports_of net) is.graph n.ports wide.least is.is_graph ports_are most is.lists (has_ports net kept) is.least
      (λ f o. some_depth options.mode options.width (network.plain net) is.graph wide.least is.is_graph most f o) in
      let outs = subst (λ m. All (λ (t : Table). t.out.0 < m) n.tables) is.least.one_each (outs_below is.graph most is.lists is.least n.ports is.fit known n.tables is.is_net.tables) in
      let few = few_nets n.inputs n.tables (length is.graph.pairs) is.kept.once input_below outs in
      let classes = classes_few in
      omega (arith, few, classes)

  inputs_few : length n.ports.inputs ≤ 262144
  inputs_few =
      let m = kept.named in
      let few = kept.few in
      let count = length-take-le net.inputs net.names (omega arith) in
      let same = ap length is.inputs in
      omega arith

  module _ (differ : IsDistinct bytes_eq (output_names net)) where
    outputs_few : length n.ports.outputs ≤ 262144
    outputs_few =
        let low = few_outputs net kept differ in
        let few = kept.few in
        let same = ap length is.outputs in
        let count = length-map net.outputs (name_in net) in
        omega arith

    pub names_few : 1 + (length is.graph.pairs + (length n.ports.inputs + length n.ports.outputs)) < 2 ^ 64
    names_few = let a = classes_few in let b = inputs_few in let c = outputs_few in omega arith

    module _ (leaves : AreLeaves most) (named : ArePortNames (network.plain net) (ports_of net)) (frame : Frame) (names : HasReadableNames net frame) where
      ports_sayable : AreSayablePorts n.ports is.graph.leaves frame
      ports_sayable =
          let apart = ports_apart options.mode options.width (network.plain net) (ports_of net) is.graph n.ports wide.least is.is_graph ports_are named in
          record {
            model = subst IsSignalName (sym is.model) names.model;
            inputs = subst (All IsSignalName) (sym is.inputs) names.inputs;
            outputs = subst (All IsSignalName) (sym is.outputs) names.outputs;
            inputs_differ = apart.inputs;
            tied = apart.tied;
            frame_fits = subst (λ outs. Fits frame n.ports.inputs outs) (sym is.outputs) (subst (λ ins. Fits frame ins (output_names net)) (sym is.inputs) names.frame_fits);
            latches = names.latches;
          }

      pub tables_sayable : IsSayable n frame
      tables_sayable =
          let a = tables_few in
          let b = inputs_few in
          let c = outputs_few in
          let room : 1 + (length n.tables + length (n.ports.inputs ++ n.ports.outputs)) < 2 ^ 64 = omega (arith, length-append n.ports.inputs n.ports.outputs) in
          made_are_sayable is.graph most is.lists.depths n.ports n frame leaves.limit is.fit ports_sayable is.is_net is.kept room
