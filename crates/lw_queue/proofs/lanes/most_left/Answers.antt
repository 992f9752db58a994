use Rattle.std.proofs.Common.{◌≡◌, ◌∙◌, ◌++◌, ap, length, take, subst, arith}
use Rattle.std.proofs.Math.Seq.{take-length}
use Rattle.lw_queue.specs.Queues.{IsMostLeft, flat}
use Rattle.lw_queue.proofs.Laning.{flat_next}
use Rattle.lw_queue.proofs.lanes.most_left.Goals as goal

pub loop-lane-preserved : goal.loop-lane-preserved
loop-lane-preserved c xs is =
    let i = c.loop-lane.lane-index in
    let lanes = c.args.lanes.now in
    let lane = c.lane-item.result in
    let here = c.greater-most.ensures (xs ++ flat (take i lanes)) lane (c.loop-lane.invariant xs is) c.first.ensures in
    subst (λ ys. IsMostLeft ys c.greater-most.result) (flat_next lanes i lane xs c.loop-lane-test.true c.lane-item.is) here

pub returns : goal.returns
returns c xs is =
    let lanes = c.args.lanes.now in
    let end : c.loop-lane.lane-index ≡ length lanes = omega (arith, c.loop-lane-test.false, c.loop-lane.auto.lane-index-end) in
    subst (λ ls. IsMostLeft (xs ++ flat ls) c.loop-lane.most) (ap (λ n. take n lanes) end ∙ take-length lanes) (c.loop-lane.invariant xs is)
