use Rattle.std.proofs.Common.{◌-◌, ◌≤◌, ◌<◌, ◌∷◌, ◌++◌, ◌∙◌, ℕ, Some, None, option_map, heap_items, sym, ap, subst, subst₂, arith}
use Rattle.std.specs.List.Sorted.{IsPermutation}
use Rattle.std.proofs.lemmas.Option.{slice_get_within}
use Rattle.lw_queue.specs.Queues.{Item, IsMostLeft, IsQueue, IsTaken, flat, Queued, Waits}
use Rattle.lw_queue.proofs.Queueing.{heap_without, none_in, none_taken, queue_taken, taken_heap, taken_lanes, taken_left}
use Rattle.lw_queue.proofs.queue.Queue.take_hinted_at.Goals as goal

pub invariant_of-self : goal.invariant_of-self
invariant_of-self c =
    let item : Item = (c.self.inside.horizon - c.args.time, c.in-Some.found) in
    let heap = heap_items c.self.inside.heap in
    let old = flat c.self.inside.lanes.items in
    let new = flat c.take_any.new.lanes.items in
    queue_taken c.self.inside.horizon item heap old heap new c.self.invariant c.self.invariant.is_heap (taken_lanes item heap old new c.in-Some.ensures)

pub returns-in-Some : goal.returns-in-Some
returns-in-Some c =
    let item : Item = (c.self.inside.horizon - c.args.time, c.in-Some.found) in
    let heap = heap_items c.self.inside.heap in
    let old = flat c.self.inside.lanes.items in
    let new = flat c.take_any.new.lanes.items in
    let perm = taken_lanes item heap old new c.in-Some.ensures in
    let e = ap (λ (q : Queued). q.horizon) c.self.view_is in
    (e, (c.in-Some.found.0, subst (λ (q : Queued). IsPermutation q.items ((q.horizon - c.args.time, c.in-Some.found) ∷ (heap ++ new))) c.self.view_is perm))

pub returns-in_err-first : goal.returns-in_err-first
returns-in_err-first c =
    let horizon = c.self.inside.horizon in
    let heap = heap_items c.self.inside.heap in
    let old = c.self.inside.lanes.items in
    let (same, less) = c.in_default.ensures in
    let first = subst (λ (q : Queued). (t n : ℕ) → Waits q t n → c.args.time ≤ t) (sym c.self.view_is) c.requires.first in
    let within : c.args.time ≤ horizon = omega (arith, c.requires.within, ap (λ (q : Queued). q.horizon) c.self.view_is) in
    let over = none_taken horizon c.args.time heap old c.self.invariant within first (λ i lane at. less i lane (omega arith) (slice_get_within old i lane at) at) (none_in (horizon - c.args.time) heap (c.in_err-first.ensures c.self.invariant.is_heap)) in
    let new : Queued = record { horizon = horizon; items = heap ++ flat c.take_any.new.lanes.items } in
    let none : IsTaken c.args.self.now new c.args.time None = (ap (λ ls. record { horizon = horizon; items = heap ++ flat ls }) same ∙ c.self.view_is, subst (λ (q : Queued). (t n : ℕ) → Waits q t n → c.args.time < t) c.self.view_is over) in
    subst (λ r. IsTaken c.args.self.now new c.args.time (option_map (λ (p : ℕ × ℕ). p.1) r)) (sym c.from_residual.ensures) none

pub returns-then-first-left : goal.returns-then-first-left
returns-then-first-left c =
    let horizon = c.self.inside.horizon in
    let heap = heap_items c.self.inside.heap in
    let old = c.self.inside.lanes.items in
    let (same, less) = c.in_default.ensures in
    let first = subst (λ (q : Queued). (t n : ℕ) → Waits q t n → c.args.time ≤ t) (sym c.self.view_is) c.requires.first in
    let within : c.args.time ≤ horizon = omega (arith, c.requires.within, ap (λ (q : Queued). q.horizon) c.self.view_is) in
    let over = none_taken horizon c.args.time heap old c.self.invariant within first (λ i lane at. less i lane (omega arith) (slice_get_within old i lane at) at) (heap_without (horizon - c.args.time) c.in_ok-first.first heap (c.in_ok-first.ensures c.self.invariant.is_heap) c.if-first-left.true) in
    (ap (λ ls. record { horizon = horizon; items = heap ++ flat ls }) same ∙ c.self.view_is, subst (λ (q : Queued). (t n : ℕ) → Waits q t n → c.args.time < t) c.self.view_is over)

pub invariant_of-self-2 : goal.invariant_of-self-2
invariant_of-self-2 c =
    let horizon = c.self.inside.horizon in
    let heap = heap_items c.self.inside.heap in
    let heap' = heap_items c.pop.new.self in
    let old = c.self.inside.lanes.items in
    let item = c.in_ok-taken.taken in
    subst (λ ls. IsQueue horizon heap' (flat ls)) (sym c.in_default.ensures.0) (queue_taken horizon item heap (flat old) heap' (flat old) c.self.invariant (c.in_ok-taken.ensures.heap_order c.self.invariant.is_heap).0 (taken_heap item heap heap' (flat old) c.in_ok-taken.ensures.permutation))

pub returns : goal.returns
returns c =
    let horizon = c.self.inside.horizon in
    let heap = heap_items c.self.inside.heap in
    let heap' = heap_items c.pop.new.self in
    let old = c.self.inside.lanes.items in
    let item = c.in_ok-taken.taken in
    let most = subst (λ n. IsMostLeft heap (Some n)) c.if-first-left.false (c.in_ok-first.ensures c.self.invariant.is_heap) in
    let left = taken_left heap heap' item (horizon - c.args.time) most c.in_ok-taken.ensures.permutation (c.in_ok-taken.ensures.heap_order c.self.invariant.is_heap).1 in
    let perm = taken_heap item heap heap' (flat old) c.in_ok-taken.ensures.permutation in
    let perm' = subst₂ (λ n ls. IsPermutation (heap ++ flat old) ((n, item.1) ∷ (heap' ++ flat ls))) left (sym c.in_default.ensures.0) perm in
    let e = ap (λ (q : Queued). q.horizon) c.self.view_is in
    (e, (item.1.0, subst (λ (q : Queued). IsPermutation q.items ((q.horizon - c.args.time, item.1) ∷ (heap' ++ flat c.take_any.new.lanes.items))) c.self.view_is perm'))
