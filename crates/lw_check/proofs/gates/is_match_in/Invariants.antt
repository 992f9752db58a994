use Rattle.std.proofs.Common.{ℕ, ◌<◌, ◌≤◌}
use Rattle.lw_check.specs.Cases.{claim_of}
use Rattle.lw_check.specs.Gates.{IsMatchBy}
use Rattle.lw_check.proofs.gates.is_match_in.Given as goal
use Rattle.lw_pool.specs.Numbers.{numbers}

abbrev pub invariant-loop-place : goal.invariant-loop-place
invariant-loop-place l = (j : ℕ) → l.fn.span.first ≤ j → j < l.place → IsMatchBy (claim_of l.case) j l.cell (numbers l.pins) l.class → ⊥
