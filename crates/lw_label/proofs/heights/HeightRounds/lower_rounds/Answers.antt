use Rattle.std.proofs.Common.{◌∙◌, ap, arith}
use Rattle.lw_label.specs.Heights.{IsReached, heights_weight}
use Rattle.lw_label.proofs.Passing.{passes_whole}
use Rattle.lw_label.proofs.heights.HeightRounds.lower_rounds.Goals as goal

pub lower_round-requires : goal.lower_round-requires
lower_round-requires g c = c.loop.invariant.rounds

pub lower_round-requires-2 : goal.lower_round-requires-2
lower_round-requires-2 g c = c.lower_round.ensures.rounds

pub loop-preserved : goal.loop-preserved
loop-preserved g c =
    let falls = c.lower_round.ensures.lowers.falls c.loop-test.true in
    record {
      order = c.lower_round.ensures.order ∙ c.loop.invariant.order;
      rounds = c.lower_round.ensures.rounds;
      low = omega (arith, falls, c.loop.invariant.low);
    }

pub loop-smaller : goal.loop-smaller
loop-smaller g c = c.lower_round.ensures.lowers.falls c.loop-test.true

pub returns : goal.returns
returns g c =
    let given = c.args.given.now in
    let task = given.task.now in
    let costs = g.C.Cost.costs task.cost.now in
    let one = c.lower_round in
    let last = c.lower_round-2 in
    record {
      order = last.ensures.order ∙ (one.ensures.order ∙ c.loop.invariant.order);
      rounds = last.ensures.rounds;
      falls = λ t.
          let falls = last.ensures.lowers.falls t in
          let same = ap heights_weight (one.ensures.lowers.same c.loop-test.false) in
          omega (arith, falls, same, c.loop.invariant.low);
      reached = passes_whole heights_weight (IsReached task.graph.now costs task.pats.now given.labels.now) task.graph.now one.new.self.heights.marks.items last.new.self.heights.marks.items last.result last.ensures.lowers;
    }
