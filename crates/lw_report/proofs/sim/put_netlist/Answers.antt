use Rattle.std.proofs.Common.{◌∙◌, refl, subst}
use Rattle.lw_report.specs.declared.block.Block.{Block}
use Rattle.lw_report.specs.Blocks.{block_vectors}
use Rattle.lw_report.specs.Writes.{WritesLines}
use Rattle.lw_report.specs.Mapped.{IsMappedLine}
use Rattle.lw_report.proofs.SimLemmas.{writes_lines_none, writes_lines_more}
use Rattle.lw_report.proofs.sim.put_netlist.Goals as goal

pub loop-block-init : goal.loop-block-init
loop-block-init g c = record { puts = writes_lines_none; length = refl }

pub put_netlist_block-requires-clause-words : goal.put_netlist_block-requires-clause-words
put_netlist_block-requires-clause-words g c = record { over = c.requires.words.over; one_each = c.loop-block.invariant.length ∙ c.requires.words.one_each }

pub loop-block-preserved : goal.loop-block-preserved
loop-block-preserved g c =
    let next = subst (λ (b : Block). WritesLines (IsMappedLine c.args.of.now) (block_vectors b) g.S.Sink.taken g.S.Sink.faults c.loop-block.out c.put_netlist_block.new.out) c.block-item.is c.put_netlist_block.ensures in
    record {
      puts = writes_lines_more c.args.blocks.now c.loop-block.block-index c.block-item.result c.loop-block-test.true c.loop-block.invariant.puts next;
      length = c.put_netlist_block.auto.nets ∙ c.loop-block.invariant.length;
    }
