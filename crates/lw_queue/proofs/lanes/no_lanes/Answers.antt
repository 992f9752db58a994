use Rattle.std.proofs.Common.{◌∙◌, ap}
use Rattle.lw_queue.specs.Queues.{flat}
use Rattle.lw_queue.proofs.Laning.{flat_none}
use Rattle.lw_queue.proofs.lanes.no_lanes.Goals as goal

pub loop-preserved : goal.loop-preserved
loop-preserved c = ap flat c.in_ok-push.ensures.items ∙ flat_none c.loop.lanes.items c.new.result c.loop.invariant c.new.ensures
