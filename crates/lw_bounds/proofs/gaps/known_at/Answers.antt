use Rattle.std.proofs.Common.{arith}
use Rattle.lw_bounds.proofs.CertifiedGaps.{known_alone}
use Rattle.lw_bounds.proofs.gaps.known_at.Goals as goal

pub returns-then-known-gap : goal.returns-then-known-gap
returns-then-known-gap g c = λ top le. omega (arith, le)

pub returns : goal.returns
returns g c = λ top le.
    let low = c.if-known-gap.false in
    known_alone (g.C.Cost.costs c.args.cost.now) c.args.cell.0 c.args.pins c.args.pin c.args.gap c.known_up_to-known.result top c.requires.pin (omega (arith, low)) le c.known_up_to-known.ensures
