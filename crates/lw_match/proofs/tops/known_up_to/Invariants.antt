use Rattle.std.proofs.Common.{ℕ, ◌≤◌}
use Rattle.lw_match.proofs.Better.{AreCertifiedBelow}
use Rattle.lw_match.proofs.tops.known_up_to.Given as goal

abbrev pub invariant-loop-number : goal.invariant-loop-number
invariant-loop-number g l =
    (top : ℕ) → top ≤ l.known → AreCertifiedBelow (g.C.Cost.costs l.cost) l.pats l.gaps top l.number
