use Rattle.std.proofs.Common.{arith}
use Rattle.lw_match.proofs.Better.{certified_start, certified_next, certified_like, certified_end}
use Rattle.lw_match.proofs.tops.known_up_to.Goals as goal

pub loop-number-init : goal.loop-number-init
loop-number-init g c = λ top le.
    certified_start (g.C.Cost.costs c.args.cost.now) c.args.pats.now c.args.gaps.now top

pub loop-number-preserved : goal.loop-number-preserved
loop-number-preserved g c = λ top le.
    let least = c.min-known.ensures in
    certified_next (g.C.Cost.costs c.args.cost.now) c.args.pats.now c.args.gaps.now top c.loop-number.number (c.loop-number.invariant top (omega (arith, le, least))) (c.known_of.ensures top (omega (arith, le, least)))

pub returns : goal.returns
returns g c = λ top le.
    certified_end (g.C.Cost.costs c.args.cost.now) c.args.pats.now c.args.gaps.now top c.loop-number.number (omega arith) (c.loop-number.invariant top le)

pub loop-number-preserved-then-is_like_last : goal.loop-number-preserved-then-is_like_last
loop-number-preserved-then-is_like_last g c = λ top le.
    let costs = g.C.Cost.costs c.args.cost.now in
    let l = c.loop-number in
    let before = l.invariant top le in
    certified_next costs c.args.pats.now c.args.gaps.now top l.number before (certified_like costs c.args.pats.now c.args.gaps.now top l.number (omega (arith, c.loop-number-test.true, c.len-number-end.ensures.len)) (c.is_like_last.ensures c.if-is_like_last.true) before)
