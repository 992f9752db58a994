use Rattle.std.proofs.Common.{ℕ, ◌<◌}
use Rattle.lw_check.specs.Cases.{claim_of}
use Rattle.lw_check.specs.Claims.{IsAtRoot}
use Rattle.lw_check.proofs.outputs.first_off_root.Given as goal

abbrev pub invariant-loop-place : goal.invariant-loop-place
invariant-loop-place l = (j : ℕ) → j < l.place → IsAtRoot (claim_of l.case) j
