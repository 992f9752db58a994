use Rattle.std.proofs.Common.{◌≡◌, []}
use Rattle.lw_queue.specs.Queues.{flat}
use Rattle.lw_queue.proofs.lanes.no_lanes.Given as goal

abbrev pub invariant-loop : goal.invariant-loop
invariant-loop l = flat l.lanes.items ≡ []
