use Rattle.std.proofs.Common.{◌-◌, ◌++◌, Some, None, subst, heap_items}
use Rattle.lw_queue.specs.Queues.{IsFirstTime, IsMostLeft, flat}
use Rattle.lw_queue.proofs.Queueing.{first_is, left_low}
use Rattle.lw_queue.proofs.queue.Queue.next_time.Goals as goal

pub overflow_sub-result : goal.overflow_sub-result
overflow_sub-result c =
    let heap = heap_items c.self.inside.heap in
    let most = subst (λ ls. IsMostLeft (heap ++ flat ls) (Some c.in-Some.left)) c.deref.ensures.value (c.in-Some.ensures heap (c.most_in_heap.ensures c.self.invariant.is_heap)) in
    left_low c.self.inside.horizon (heap ++ flat c.self.inside.lanes.items) c.in-Some.left c.self.invariant.within most

pub returns-in-Some : goal.returns-in-Some
returns-in-Some c =
    let heap = heap_items c.self.inside.heap in
    let most = subst (λ ls. IsMostLeft (heap ++ flat ls) (Some c.in-Some.left)) c.deref.ensures.value (c.in-Some.ensures heap (c.most_in_heap.ensures c.self.invariant.is_heap)) in
    subst (λ q. IsFirstTime q (Some (c.self.inside.horizon - c.in-Some.left))) c.self.view_is (first_is c.self.inside.horizon (heap ++ flat c.self.inside.lanes.items) c.in-Some.left c.self.invariant.within most)

pub returns-in-None : goal.returns-in-None
returns-in-None c =
    let heap = heap_items c.self.inside.heap in
    let most = subst (λ ls. IsMostLeft (heap ++ flat ls) None) c.deref.ensures.value (c.in-None.ensures heap (c.most_in_heap.ensures c.self.invariant.is_heap)) in
    subst (λ q. IsFirstTime q None) c.self.view_is most
