use Rattle.std.proofs.Common.{List, ◌++◌, take}
use Rattle.lw_queue.specs.Queues.{Item, IsMostLeft, flat}
use Rattle.lw_queue.proofs.lanes.most_left.Given as goal

abbrev pub invariant-loop-lane : goal.invariant-loop-lane
invariant-loop-lane l = (xs : List Item) → IsMostLeft xs l.fn.others → IsMostLeft (xs ++ flat (take l.lane-index l.lanes)) l.most
