use Rattle.std.proofs.Common.{ℕ, ◌<◌}
use Rattle.lw_check.specs.Cases.{claim_of}
use Rattle.lw_check.specs.Claims.{IsMatchAtPlace}
use Rattle.lw_check.proofs.gates.first_no_match.Given as goal

abbrev pub invariant-loop-place : goal.invariant-loop-place
invariant-loop-place l = (j : ℕ) → j < l.place → IsMatchAtPlace (claim_of l.case) j
