use Rattle.std.proofs.Common.{◌<◌, length, arith}
use Rattle.lw_label.proofs.Times.{cut_step}
use Rattle.lw_label.proofs.delay.latest.Goals as goal

pub loop-k-preserved : goal.loop-k-preserved
loop-k-preserved c =
    let in_delays : c.loop-k.k < length c.args.delays.now = omega (arith, c.requires, c.loop-k-test.true) in
    cut_step c.args.delays.now c.args.pins.now c.loop-k.k c.loop-k.latest c.sum.result c.later-latest.result in_delays c.loop-k-test.true c.loop-k.invariant c.sum.ensures c.later-latest.ensures
