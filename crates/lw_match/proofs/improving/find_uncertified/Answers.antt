use Rattle.std.proofs.Common.{arith}
use Rattle.lw_bounds.specs.Cuts.{cuts_state}
use Rattle.lw_match.proofs.Better.{doubts_start, doubts_next, none_if}
use Rattle.lw_match.proofs.improving.find_uncertified.Goals as goal

pub loop-number-init : goal.loop-number-init
loop-number-init g c =
    let q = c.args.query.now in
    doubts_start (cuts_state q.site.cuts.now) q.site.graph.now (g.C.Cost.costs q.site.cost.now) q.site.pats.now q.site.marks.now q.site.class.0 c.args.target

pub loop-number-preserved : goal.loop-number-preserved
loop-number-preserved g c =
    let q = c.args.query.now in
    let l = c.loop-number in
    doubts_next (cuts_state q.site.cuts.now) q.site.graph.now (g.C.Cost.costs q.site.cost.now) q.site.pats.now q.site.marks.now q.site.class.0 l.number c.args.target l.invariant (c.find_uncertified_by-best.ensures.none (none_if c.find_uncertified_by-best.result c.is_some.result c.is_some.ensures c.if-is_some.false))

pub returns-clause-none : goal.returns-clause-none
returns-clause-none g c = λ e i lt.
    c.loop-number.invariant i (omega (arith, c.loop-number-test.false, c.len-number-end.ensures.len))
