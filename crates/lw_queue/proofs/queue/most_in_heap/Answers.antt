use Rattle.std.proofs.Common.{sym, heap_items}
use Rattle.lw_queue.proofs.Queueing.{most_is}
use Rattle.lw_queue.proofs.queue.most_in_heap.Goals as goal

pub returns-in-Some : goal.returns-in-Some
returns-in-Some c heap = most_is (heap_items c.args.heap.now) c.in-Some.first.now (0, c.in-Some.ensures.item.3.0, sym c.in-Some.ensures.lookup) (c.in-Some.ensures.greatest heap)
