use Rattle.std.proofs.Common.{subst}
use Rattle.lw_queue.specs.Queues.{IsMostLeft}
use Rattle.lw_queue.proofs.Laning.{most_both}
use Rattle.lw_queue.proofs.lanes.greater.Goals as goal

pub returns : goal.returns
returns c xs ys a b =
    most_both xs ys c.in-Some.first c.in-Some-other.second c.max.result c.max.ensures (subst (IsMostLeft xs) c.in-Some.is a) (subst (IsMostLeft ys) c.in-Some-other.is b)
