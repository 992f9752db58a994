use Rattle.std.proofs.Common.{arith}
use Rattle.lw_facts.proofs.Lists.{total_more}
use Rattle.lw_choices.proofs.area.together.Goals as goal

pub loop-pin-preserved : goal.loop-pin-preserved
loop-pin-preserved c =
    let more = total_more c.args.pins.now c.loop-pin.pin-index c.loop-pin-test.true in
    omega (arith, more, c.loop-pin.invariant, c.joined-total.ensures)
