use Rattle.std.proofs.Common.{◌≤◌, ◌+◌, ◌∙◌, length, refl, ap, sym, arith}
use Rattle.lw_label.specs.Orders.{places_of}
use Rattle.lw_label.proofs.Walking.{walk_leaves, walk_falls}
use Rattle.lw_label.proofs.order.Walk.step.Goals as goal

pub returns-in_ok-enter-in-Some-part-clause-falls : goal.returns-in_ok-enter-in-Some-part-clause-falls
returns-in_ok-enter-in-Some-part-clause-falls c = λ e.
    let entered = c.in_ok-enter-in-Some-part.ensures in
    let same = ap length (c.in_ok-push-in-Some-part.ensures.items ∙ sym c.in-Some.ensures.items) in
    let more : length c.enter.new.self.path.items ≤ length c.args.self.now.path.items + 1 = omega (arith, entered.path, same) in
    walk_falls (places_of c.args.graph.now) c.in-Some.place c.index.result.now c.index_mut.result.now c.args.self.now c.enter.new.self c.pop.new.self.items c.requires c.in-Some.ensures.items c.index.ensures c.index_mut.ensures.value c.in-Some-part.ensures.few entered.next more

pub returns-in_ok-push-in-None-clause-walk : goal.returns-in_ok-push-in-None-clause-walk
returns-in_ok-push-in-None-clause-walk c =
    walk_leaves (places_of c.args.graph.now) c.in-Some.place c.args.self.now _ c.requires refl refl c.in-Some.ensures.items c.in_ok-push-in-None.ensures.items
