use Rattle.std.proofs.Common.{ℕ, ◌<◌}
use Rattle.lw_genlib.specs.Words.{AgreeIn}
use Rattle.lw_genlib.proofs.truth.have_one_truth.Given as goal

abbrev pub invariant-loop-block : goal.invariant-loop-block
invariant-loop-block l = (b : ℕ) → b < l.block → AgreeIn l.first l.other b
