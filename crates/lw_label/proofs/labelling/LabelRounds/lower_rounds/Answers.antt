use Rattle.std.proofs.Common.{◌∙◌, ap, arith}
use Rattle.lw_label.specs.Lowering.{IsLabelled, state_weight}
use Rattle.lw_label.specs.Searches.{state_of}
use Rattle.lw_label.proofs.OneVisit.{round_after, round_again}
use Rattle.lw_label.proofs.Passing.{passes_whole}
use Rattle.lw_label.proofs.labelling.LabelRounds.lower_rounds.Goals as goal

pub lower_round-requires : goal.lower_round-requires
lower_round-requires g c =
    let task = c.args.task.now in
    let own = c.loop.self in
    round_again task.graph.now (g.C.Cost.costs task.cost.now) task.pats.now c.args.self.now.visits own.visits (state_of own.labelling) own.labelling.tops.now c.requires.places c.loop.invariant.after

pub lower_round-requires-2 : goal.lower_round-requires-2
lower_round-requires-2 g c =
    let task = c.args.task.now in
    let graph = task.graph.now in
    let costs = g.C.Cost.costs task.cost.now in
    let pats = task.pats.now in
    let first = c.args.self.now.visits in
    let one = c.lower_round.new.self in
    let s = state_of one.labelling in
    round_again graph costs pats first one.visits s one.labelling.tops.now c.requires.places (round_after graph costs pats first c.loop.self.visits one.visits s one.labelling.tops.now c.loop.invariant.after.visits c.lower_round.ensures.after)

pub loop-preserved : goal.loop-preserved
loop-preserved g c =
    let task = c.args.task.now in
    let one = c.lower_round.new.self in
    let falls = c.lower_round.ensures.lowers.falls c.loop-test.true in
    record {
      after = round_after task.graph.now (g.C.Cost.costs task.cost.now) task.pats.now c.args.self.now.visits c.loop.self.visits one.visits (state_of one.labelling) one.labelling.tops.now c.loop.invariant.after.visits c.lower_round.ensures.after;
      low = omega (arith, falls, c.loop.invariant.low);
    }

pub loop-smaller : goal.loop-smaller
loop-smaller g c = c.lower_round.ensures.lowers.falls c.loop-test.true

pub returns : goal.returns
returns g c =
    let task = c.args.task.now in
    let graph = task.graph.now in
    let costs = g.C.Cost.costs task.cost.now in
    let pats = task.pats.now in
    let one = c.lower_round in
    let last = c.lower_round-2 in
    let mid = state_of one.new.self.labelling in
    let new = state_of last.new.self.labelling in
    record {
      after = round_after graph costs pats c.args.self.now.visits one.new.self.visits last.new.self.visits new last.new.self.labelling.tops.now (one.ensures.after.visits ∙ c.loop.invariant.after.visits) last.ensures.after;
      falls = λ t.
          let falls = last.ensures.lowers.falls t in
          let same = ap (state_weight costs) (one.ensures.lowers.same c.loop-test.false) in
          omega (arith, falls, same, c.loop.invariant.low);
      labelled = passes_whole (state_weight costs) (IsLabelled graph costs pats) graph mid new last.result last.ensures.lowers;
    }
