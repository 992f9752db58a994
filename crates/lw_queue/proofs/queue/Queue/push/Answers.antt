use Rattle.std.proofs.Common.{◌-◌, ◌∷◌, ◌++◌, heap_items, sym, subst, arith}
use Rattle.std.specs.List.Sorted.{IsPermutation}
use Rattle.lw_queue.specs.Queues.{Item, IsPushedBehind, IsQueue, flat, Queued}
use Rattle.lw_queue.proofs.Queueing.{pushed_heap, pushed_lanes, queue_pushed}
use Rattle.lw_queue.proofs.queue.Queue.push.Goals as goal

pub invariant_of-self-then-branch : goal.invariant_of-self-then-branch
invariant_of-self-then-branch c =
    let item : Item = (c.self.inside.horizon - c.args.time, (c.args.hint, c.args.number)) in
    let heap = heap_items c.self.inside.heap in
    let old = c.self.inside.lanes.items in
    let new = c.push_behind.new.lanes.items in
    let pushed = subst (IsPushedBehind old new item) c.if-branch.true c.in_ok-push_behind.ensures in
    queue_pushed c.self.inside.horizon item heap (flat old) heap (flat new) (omega arith) c.self.invariant c.self.invariant.is_heap (pushed_lanes item heap (flat old) (flat new) pushed)

pub returns-then-branch-clause-items : goal.returns-then-branch-clause-items
returns-then-branch-clause-items c =
    let item : Item = (c.self.inside.horizon - c.args.time, (c.args.hint, c.args.number)) in
    let heap = heap_items c.self.inside.heap in
    let old = c.self.inside.lanes.items in
    let new = c.push_behind.new.lanes.items in
    let pushed = subst (IsPushedBehind old new item) c.if-branch.true c.in_ok-push_behind.ensures in
    subst (λ (q : Queued). IsPermutation ((q.horizon - c.args.time, (c.args.hint, c.args.number)) ∷ q.items) (heap ++ flat new)) c.self.view_is (pushed_lanes item heap (flat old) (flat new) pushed)

pub invariant_of-self-2 : goal.invariant_of-self-2
invariant_of-self-2 c =
    let item : Item = (c.self.inside.horizon - c.args.time, (c.args.hint, c.args.number)) in
    let heap = heap_items c.self.inside.heap in
    let heap' = heap_items c.push.new.self in
    let old = c.self.inside.lanes.items in
    let new = c.push_behind.new.lanes.items in
    let same = subst (IsPushedBehind old new item) c.if-branch.false c.in_ok-push_behind.ensures in
    subst (λ ls. IsQueue c.self.inside.horizon heap' (flat ls)) (sym same) (queue_pushed c.self.inside.horizon item heap (flat old) heap' (flat old) (omega arith) c.self.invariant (c.in_ok-push.ensures.heap_order c.self.invariant.is_heap) (pushed_heap item heap heap' (flat old) c.in_ok-push.ensures.permutation))

pub returns-clause-items : goal.returns-clause-items
returns-clause-items c =
    let item : Item = (c.self.inside.horizon - c.args.time, (c.args.hint, c.args.number)) in
    let heap = heap_items c.self.inside.heap in
    let heap' = heap_items c.push.new.self in
    let old = c.self.inside.lanes.items in
    let new = c.push_behind.new.lanes.items in
    let same = subst (IsPushedBehind old new item) c.if-branch.false c.in_ok-push_behind.ensures in
    let perm = pushed_heap item heap heap' (flat old) c.in_ok-push.ensures.permutation in
    let perm' = subst (λ (q : Queued). IsPermutation ((q.horizon - c.args.time, (c.args.hint, c.args.number)) ∷ q.items) (heap' ++ flat old)) c.self.view_is perm in
    subst (λ ls. IsPermutation ((c.args.self.now.horizon - c.args.time, (c.args.hint, c.args.number)) ∷ c.args.self.now.items) (heap' ++ flat ls)) (sym same) perm'
