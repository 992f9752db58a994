use Rattle.std.proofs.Common.{ℕ, ◌<◌}
use Rattle.lw_check.specs.Cases.{claim_of}
use Rattle.lw_check.specs.Claims.{IsOnTimeAt}
use Rattle.lw_check.proofs.outputs.first_off_time.Given as goal

abbrev pub invariant-loop-place : goal.invariant-loop-place
invariant-loop-place l = (j : ℕ) → j < l.place → IsOnTimeAt (claim_of l.case) j
