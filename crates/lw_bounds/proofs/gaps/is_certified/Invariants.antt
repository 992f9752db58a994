use Rattle.lw_bounds.proofs.CertifiedGaps.{IsCertifiedBelow}
use Rattle.lw_bounds.proofs.gaps.is_certified.Given as goal

abbrev pub invariant-loop-pin : goal.invariant-loop-pin
invariant-loop-pin g l =
    IsCertifiedBelow (g.C.Cost.costs l.cost) l.cell.0 l.pins l.gaps l.top l.pin
