use Rattle.std.proofs.Common.{◌∙◌}
use Rattle.lw_lut_text.proofs.laws.table_texts_are_mappings.Goals as goal

pub returns : goal.returns
returns c = record {
  some = λ mode width from outer g most lists ports n wide has named is least of fit few net_of.
      let known = c.network_ports_fit.ensures.known mode width from outer g most lists ports wide has is least of in
      let kept = c.table_nets_are_kept.ensures g most lists ports n least fit known net_of in
      let apart = c.table_nets_are_named_apart.ensures g most lists ports n least fit (c.network_ports_fit.ensures.apart mode width from outer g ports wide named is of) net_of kept few in
      c.tables_close.ensures.closed g most lists.depths ports n net_of kept apart;
  each = λ mode width from outer g most lists ports n net wide some order has named is least of fit few net_of closed.
      let known = c.network_ports_fit.ensures.known mode width from outer g most lists ports wide has is least of in
      let kept = c.table_nets_are_kept.ensures g most lists ports n least fit known net_of in
      let apart = c.table_nets_are_named_apart.ensures g most lists ports n least fit (c.network_ports_fit.ensures.apart mode width from outer g ports wide named is of) net_of kept few in
      let network = c.tables_compute_classes.ensures g most lists ports n net some least net_of kept apart closed in
      record {
        kept = network.kept;
        named = network.model;
        inputs = network.inputs ∙ of.inputs;
        outputs = network.outputs ∙ of.outputs;
        few = network.few;
        some_depths = network.some_depths;
        roots = c.tables_have_least_depths.ensures mode width from outer g most lists ports net wide order has is least of.roots network;
      };
}
