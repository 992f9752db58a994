use Rattle.std.proofs.Common.{◌≡◌, ◌+◌, length, sym, subst, arith}
use Rattle.lw_label.specs.Lowering.{IsLabelled, Lowers, state_weight}
use Rattle.lw_label.specs.Orders.{IsOrder, IsPassed, IsVisited}
use Rattle.lw_label.specs.Searches.{state_of}
use Rattle.lw_label.proofs.OneVisit.{round_after, round_again}
use Rattle.lw_label.proofs.Passing.{passes_next, passes_round}
use Rattle.lw_label.proofs.labelling.LabelRounds.lower_round.Goals as goal

pub lower_place-lowered-requires-clause-rounds : goal.lower_place-lowered-requires-clause-rounds
lower_place-lowered-requires-clause-rounds g c =
    let task = c.args.task.now in
    let own = c.loop-number.self in
    round_again task.graph.now (g.C.Cost.costs task.cost.now) task.pats.now c.args.self.now.visits own.visits (state_of own.labelling) own.labelling.tops.now c.requires.places c.loop-number.invariant.after

pub loop-number-preserved : goal.loop-number-preserved
loop-number-preserved g c =
    let task = c.args.task.now in
    let costs = g.C.Cost.costs task.cost.now in
    let graph = task.graph.now in
    let pats = task.pats.now in
    let whole = c.args.whole in
    let first = c.args.self.now in
    let order = first.visits.order in
    let number = c.loop-number.number in
    let own = c.loop-number.self in
    let visit = c.lower_place-lowered in
    let next = visit.new.self in
    let old = state_of first.labelling in
    let mid = state_of own.labelling in
    let new = state_of next.labelling in
    let before = c.loop-number.invariant.after.visits in
    let pass = subst (λ v. Lowers graph costs pats mid new (IsVisited whole v.order number) visit.result) before visit.ensures.lowers in
    record {
      after = round_after graph costs pats first.visits own.visits next.visits new next.labelling.tops.now before visit.ensures.after;
      lowers = subst (λ b. Lowers graph costs pats old new (IsPassed whole order (number + 1)) b) (sym c.either-changed.ensures) (passes_next (state_weight costs) (IsLabelled graph costs pats) old mid new whole order number c.loop-number.changed visit.result c.loop-number.invariant.lowers pass);
    }

pub returns : goal.returns
returns g c =
    let task = c.args.task.now in
    let costs = g.C.Cost.costs task.cost.now in
    let graph = task.graph.now in
    let pats = task.pats.now in
    let whole = c.args.whole in
    let order = c.args.self.now.visits.order in
    let old = state_of c.args.self.now.labelling in
    let new = state_of c.loop-number.self.labelling in
    let changed = c.loop-number.changed in
    let all : c.loop-number.number ≡ length order = omega (arith, c.len-number-end.ensures.len, c.loop-number-test.false, c.loop-number.auto.number-end) in
    record {
      after = c.loop-number.invariant.after;
      lowers = passes_round (state_weight costs) (IsLabelled graph costs pats) graph old new whole order changed c.classes.ensures.kept.even (subst (λ n. IsOrder n order) c.requires.places c.len-number-end.ensures.order) (subst (λ n. Lowers graph costs pats old new (IsPassed whole order n) changed) all c.loop-number.invariant.lowers);
    }
