use Rattle.std.proofs.Common.{◌≡◌, ◌+◌, ◌∙◌, length, sym, subst, arith}
use Rattle.lw_label.specs.Heights.{IsReached, LowersFrom, heights_weight}
use Rattle.lw_label.specs.Orders.{IsOrder, IsPassed, IsVisited}
use Rattle.lw_label.proofs.Passing.{passes_next, passes_round}
use Rattle.lw_label.proofs.heights.HeightRounds.lower_round.Goals as goal

pub lower_place-lowered-requires-clause-rounds : goal.lower_place-lowered-requires-clause-rounds
lower_place-lowered-requires-clause-rounds g c = c.loop-number.invariant.rounds

pub loop-number-preserved : goal.loop-number-preserved
loop-number-preserved g c =
    let given = c.args.given.now in
    let task = given.task.now in
    let costs = g.C.Cost.costs task.cost.now in
    let whole = c.args.whole in
    let order = c.args.self.now.visits.order in
    let number = c.loop-number.number in
    let old = c.args.self.now.heights.marks.items in
    let mid = c.loop-number.self.heights.marks.items in
    let visit = c.lower_place-lowered in
    let new = visit.new.self.heights.marks.items in
    let pass = subst (λ o. LowersFrom costs given mid new (IsVisited whole o number) visit.result) c.loop-number.invariant.order visit.ensures.lowers in
    record {
      order = visit.ensures.order ∙ c.loop-number.invariant.order;
      rounds = visit.ensures.rounds;
      lowers = subst (λ b. LowersFrom costs given old new (IsPassed whole order (number + 1)) b) (sym c.either-changed.ensures) (passes_next heights_weight (IsReached task.graph.now costs task.pats.now given.labels.now) old mid new whole order number c.loop-number.changed visit.result c.loop-number.invariant.lowers pass);
    }

pub returns : goal.returns
returns g c =
    let given = c.args.given.now in
    let task = given.task.now in
    let costs = g.C.Cost.costs task.cost.now in
    let whole = c.args.whole in
    let order = c.args.self.now.visits.order in
    let old = c.args.self.now.heights.marks.items in
    let new = c.loop-number.self.heights.marks.items in
    let changed = c.loop-number.changed in
    let all : c.loop-number.number ≡ length order = omega (arith, c.len-number-end.ensures.len, c.loop-number-test.false, c.loop-number.auto.number-end) in
    record {
      order = c.loop-number.invariant.order;
      rounds = c.loop-number.invariant.rounds;
      lowers = passes_round heights_weight (IsReached task.graph.now costs task.pats.now given.labels.now) task.graph.now old new whole order changed c.requires.falling.search.given.graph.even (subst (λ n. IsOrder n order) c.requires.places c.len-number-end.ensures.order) (subst (λ n. LowersFrom costs given old new (IsPassed whole order n) changed) all c.loop-number.invariant.lowers);
    }
