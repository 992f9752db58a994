use Rattle.std.proofs.Common.{◌∙◌, refl, subst}
use Rattle.lw_report.specs.declared.block.Block.{Block}
use Rattle.lw_report.specs.Blocks.{block_vectors}
use Rattle.lw_report.specs.Writes.{WritesLines}
use Rattle.lw_report.specs.Simulated.{IsNetworkLine}
use Rattle.lw_report.proofs.SimLemmas.{writes_lines_none, writes_lines_more}
use Rattle.lw_report.proofs.sim.put_network.Goals as goal

pub loop-block-init : goal.loop-block-init
loop-block-init g c = record { puts = writes_lines_none; length = refl }

pub put_net_block-requires-clause-made : goal.put_net_block-requires-clause-made
put_net_block-requires-clause-made g c = c.loop-block.invariant.length ∙ c.requires.made

pub loop-block-preserved : goal.loop-block-preserved
loop-block-preserved g c =
    let next = subst (λ (b : Block). WritesLines (IsNetworkLine c.args.net.now) (block_vectors b) g.S.Sink.taken g.S.Sink.faults c.loop-block.out c.put_net_block.new.out) c.block-item.is c.put_net_block.ensures in
    record {
      puts = writes_lines_more c.args.blocks.now c.loop-block.block-index c.block-item.result c.loop-block-test.true c.loop-block.invariant.puts next;
      length = c.put_net_block.auto.nets ∙ c.loop-block.invariant.length;
    }
