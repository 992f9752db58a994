use Rattle.std.proofs.Common.{arith}
use Rattle.lw_match.proofs.Better.{certified_start, certified_next, certified_like, certified_end}
use Rattle.lw_match.proofs.tops.are_certified.Goals as goal

pub loop-number-init : goal.loop-number-init
loop-number-init g c =
    certified_start (g.C.Cost.costs c.args.cost.now) c.args.pats.now c.args.gaps.now c.args.top

pub returns : goal.returns
returns g c = λ t.
    certified_end (g.C.Cost.costs c.args.cost.now) c.args.pats.now c.args.gaps.now c.args.top c.loop-number.number (omega arith) c.loop-number.invariant

pub loop-number-preserved-then-is_like_last : goal.loop-number-preserved-then-is_like_last
loop-number-preserved-then-is_like_last g c =
    let costs = g.C.Cost.costs c.args.cost.now in
    let l = c.loop-number in
    certified_next costs c.args.pats.now c.args.gaps.now c.args.top l.number l.invariant (certified_like costs c.args.pats.now c.args.gaps.now c.args.top l.number (omega (arith, c.loop-number-test.true, c.len-number-end.ensures.len)) (c.is_like_last.ensures c.if-is_like_last.true) l.invariant)
