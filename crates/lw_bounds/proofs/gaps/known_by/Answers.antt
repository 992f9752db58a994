use Rattle.std.proofs.Common.{◌≡◌, subst, arith}
use Rattle.lw_bounds.proofs.CertifiedGaps.{IsCertifiedBelow, certified_none, certified_more}
use Rattle.lw_bounds.proofs.gaps.known_by.Goals as goal

pub loop-pin-init : goal.loop-pin-init
loop-pin-init g c = λ top le.
    certified_none (g.C.Cost.costs c.args.cost.now) c.args.cell.0 c.args.pins c.args.gaps.now top

pub loop-pin-preserved : goal.loop-pin-preserved
loop-pin-preserved g c = λ top le.
    let least = c.min-known.ensures in
    certified_more (g.C.Cost.costs c.args.cost.now) c.args.cell.0 c.args.pins c.args.gaps.now top c.loop-pin.pin c.gap_at.result (c.loop-pin.invariant top (omega (arith, le, least))) c.gap_at.ensures (c.known_at.ensures top (omega (arith, le, least)))

pub returns : goal.returns
returns g c = λ top le.
    let end : c.loop-pin.pin ≡ c.args.pins = omega arith in
    subst (λ n. IsCertifiedBelow (g.C.Cost.costs c.args.cost.now) c.args.cell.0 c.args.pins c.args.gaps.now top n) end (c.loop-pin.invariant top le)
