use Rattle.std.proofs.Common.{◌≡◌, subst, arith}
use Rattle.lw_bounds.proofs.CertifiedGaps.{IsCertifiedBelow, certified_none, certified_more}
use Rattle.lw_bounds.proofs.gaps.is_certified.Goals as goal

pub loop-pin-init : goal.loop-pin-init
loop-pin-init g c =
    certified_none (g.C.Cost.costs c.args.cost.now) c.args.cell.0 c.args.pins c.args.gaps.now c.args.top

pub loop-pin-preserved : goal.loop-pin-preserved
loop-pin-preserved g c =
    certified_more (g.C.Cost.costs c.args.cost.now) c.args.cell.0 c.args.pins c.args.gaps.now c.args.top c.loop-pin.pin c.gap_at.result c.loop-pin.invariant c.gap_at.ensures (c.is_certified_at.ensures c.if-not-is_certified_at.false)

pub returns : goal.returns
returns g c = λ t.
    let end : c.loop-pin.pin ≡ c.args.pins = omega arith in
    subst (λ n. IsCertifiedBelow (g.C.Cost.costs c.args.cost.now) c.args.cell.0 c.args.pins c.args.gaps.now c.args.top n) end c.loop-pin.invariant
