use Rattle.std.proofs.Common.{arith}
use Rattle.lw_label.specs.Orders.{places_of}
use Rattle.lw_label.proofs.Walking.{walk_ends}
use Rattle.lw_label.proofs.order.order_of.Goals as goal

pub returns : goal.returns
returns c =
    walk_ends (places_of c.args.graph.now) c.loop-place.walk c.loop-place.invariant.walk c.loop-place.invariant.left (λ p below. c.loop-place.invariant.entered p (omega (arith, below, c.classes-place-end.ensures.classes, c.loop-place-test.false)))
