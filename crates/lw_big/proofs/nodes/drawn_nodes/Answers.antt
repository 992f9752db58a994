use Rattle.std.proofs.Common.{◌∙◌}
use Rattle.lw_big.specs.Generated.{drawn_nodes}
use Rattle.lw_big.proofs.Stepping.{node_drawn, nodes_more}
use Rattle.lw_big.proofs.nodes.drawn_nodes.Goals as goal

pub loop-k-init : goal.loop-k-init
unfolding drawn_nodes
loop-k-init c = record { drawn = c.new-draws.ensures; nodes = c.new-nodes.ensures }

pub loop-k-preserved : goal.loop-k-preserved
loop-k-preserved c =
    let seed = c.args.seed in
    let k = c.loop-k.k in
    let has = c.loop-k.invariant.drawn in
    let wires = c.draw_node-drawn.ensures in
    let drawn = c.draw_node-drawn.result in
    record {
      drawn = wires.draws seed has;
      nodes = nodes_more seed k c.in_ok-node.field-0 c.loop-k.nodes c.push.new.self c.loop-k.invariant.nodes
          (c.in_ok-node.ensures ∙ node_drawn seed k drawn.first drawn.second drawn.kind (wires.first seed has) (wires.second seed has) (wires.kind seed has))
          c.in_ok-push.ensures;
    }
