use Rattle.std.proofs.Common.{◌<◌, Some, sym, subst, arith}
use Rattle.lw_cost.specs.declared.mark.Mark.{Mark}
use Rattle.lw_cost.specs.Values.{marks_in}
use Rattle.lw_match.specs.Queries.{AreTrue, IsPricedIn}
use Rattle.lw_branch.specs.Searching.{always}
use Rattle.lw_match.proofs.Found.{within_least}
use Rattle.lw_match.proofs.Picks.{improves_below}
use Rattle.lw_match.proofs.choosing.pick_least.Goals as goal

pub pick_near-requires-clause-pick : goal.pick_near-requires-clause-pick
pick_near-requires-clause-pick g c =
    let sure = c.requires.sure c.if-not-is_sure.false in
    record {
      query = c.requires.query;
      pick = record { bounds = c.requires.bounds; rooted = omega arith; sure = sure.sure; last = sure.last };
    }

pub returns : goal.returns
returns g c =
    let q = c.args.query.now in
    let costs = g.C.Cost.costs q.site.cost.now in
    let (start, is, mark) = c.to_beat-best.ensures in
    let sure = c.requires.sure c.if-not-is_sure.false in
    let below : start.mark.cost < c.args.pick.top = subst (λ (m : Mark). m.cost < c.args.pick.top) (sym mark) sure.below in
    within_least (always (AreTrue q)) q.site.graph.now costs q.site.pats.now (marks_in q.site.marks.now) q.site.class.0 (Some c.args.pick.bound) c.to_beat-best.result c.pick_near.new.best c.within.result c.to_beat-best.ensures (improves_below (IsPricedIn g.C.Cost.costs q) (AreTrue q) c.args.pick.top start c.to_beat-best.result c.pick_near.new.best is below c.pick_near.ensures) c.within.ensures (λ k. c.requires.bounds)

pub returns-then-query-len : goal.returns-then-query-len
returns-then-query-len g c = c.answer.ensures.least c.requires.bounds

pub returns-then-not-is_sure : goal.returns-then-not-is_sure
returns-then-not-is_sure g c = c.answer-then-not-is_sure.ensures.least c.requires.bounds
