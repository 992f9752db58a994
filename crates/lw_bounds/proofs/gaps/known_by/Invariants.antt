use Rattle.std.proofs.Common.{ℕ, ◌≤◌}
use Rattle.lw_bounds.proofs.CertifiedGaps.{IsCertifiedBelow}
use Rattle.lw_bounds.proofs.gaps.known_by.Given as goal

abbrev pub invariant-loop-pin : goal.invariant-loop-pin
invariant-loop-pin g l =
    (top : ℕ) → top ≤ l.known → IsCertifiedBelow (g.C.Cost.costs l.cost) l.cell.0 l.pins l.gaps top l.pin
