use Rattle.std.proofs.Common.{arith}
use Rattle.lw_equal.proofs.Tried.{agree_more}
use Rattle.lw_equal.proofs.trying.all_agree.Goals as goal

pub loop-both-init : goal.loop-both-init
loop-both-init c j d lt = absurd (omega (arith, lt))

pub loop-both-preserved : goal.loop-both-preserved
loop-both-preserved c = agree_more c.args.words.now c.args.ends.now c.loop-both.both-index c.loop-both-test.true c.loop-both.invariant (c.agree.ensures c.if-not-agree.false)

pub returns : goal.returns
returns c same j d lt = c.loop-both.invariant j d (omega (arith, lt, c.loop-both-test.false))
