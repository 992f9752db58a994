use Rattle.std.proofs.Common.{arith}
use Rattle.std.specs.Vec.{with_items}
use Rattle.lw_report.proofs.BlockLemmas.{written, new_low, one_more_vector}
use Rattle.lw_report.proofs.block.Block.add.Goals as goal

pub returns-clause-block : goal.returns-clause-block
returns-clause-block c =
    let block = c.args.self.now in
    let are = written block c.deref_mut.result.now c.set_bits.new.words c.args.digits.now c.requires.block c.deref_mut.ensures.value c.set_bits.auto.words c.set_bits.ensures in
    record { one_each = are.new_length; few = omega arith; clear = new_low block.count block.words.items (with_items block.words c.set_bits.new.words).items c.args.digits.now are }

pub returns-clause-vectors : goal.returns-clause-vectors
returns-clause-vectors c =
    let block = c.args.self.now in
    let are = written block c.deref_mut.result.now c.set_bits.new.words c.args.digits.now c.requires.block c.deref_mut.ensures.value c.set_bits.auto.words c.set_bits.ensures in
    one_more_vector block.count block.words.items (with_items block.words c.set_bits.new.words).items c.args.digits.now are
