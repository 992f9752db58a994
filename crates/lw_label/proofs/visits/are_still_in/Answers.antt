use Rattle.std.proofs.Common.{arith}
use Rattle.lw_label.proofs.Still.{parts_still, still_next}
use Rattle.lw_label.proofs.visits.are_still_in.Goals as goal

pub loop-pair-preserved : goal.loop-pair-preserved
loop-pair-preserved c =
    still_next c.args.still.now c.nands-pair-items.result.now c.loop-pair.pair-index c.loop-pair-test.true c.if-not-still-pair.false c.if-not-still-pair-2.false c.loop-pair.invariant

pub returns : goal.returns
returns c = λ t.
    parts_still c.args.graph.now c.args.still.now c.args.class.0 c.nands-pair-items.result.now c.nands-pair-items.ensures.pairs c.loop-pair.pair-index (omega (arith, c.loop-pair-test.false)) c.loop-pair.invariant
