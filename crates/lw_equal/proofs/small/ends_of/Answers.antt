use Rattle.std.proofs.Common.{◌+◌, subst, sym, take}
use Rattle.lw_equal.specs.Cases.{AreEnds}
use Rattle.lw_equal.proofs.Ended.{all_ends, ends_more, no_ends}
use Rattle.lw_equal.proofs.small.ends_of.Goals as goal

pub loop-pair-preserved : goal.loop-pair-preserved
loop-pair-preserved c =
    let case = c.args.case.now in
    let pairs = c.args.pairs.now in
    let i = c.loop-pair.pair-index in
    let of = rw c.in-Some.is at c.ends_at.ensures in
    subst (AreEnds case (take (i + 1) pairs)) (sym c.in_ok-push.ensures.items)
    (ends_more case pairs c.loop-pair.ends.items i c.pair-item.result c.in-Some.both c.loop-pair-test.true c.pair-item.is of c.loop-pair.invariant)
