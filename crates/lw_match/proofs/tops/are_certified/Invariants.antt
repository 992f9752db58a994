use Rattle.lw_match.proofs.Better.{AreCertifiedBelow}
use Rattle.lw_match.proofs.tops.are_certified.Given as goal

abbrev pub invariant-loop-number : goal.invariant-loop-number
invariant-loop-number g l =
    AreCertifiedBelow (g.C.Cost.costs l.cost) l.pats l.gaps l.top l.number
