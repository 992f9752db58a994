use Rattle.std.proofs.Common.{ℕ, ◌<◌, ◌≡◌, length}
use Rattle.lw_equal.proofs.Tried.{BlockAgrees}
use Rattle.lw_equal.proofs.trying.try_blocks.Given as goal

abbrev pub invariant-loop-block : goal.invariant-loop-block
invariant-loop-block l = record { size : length l.words ≡ length l.gates; earlier : (b : ℕ) → b < l.block → BlockAgrees l.gates l.ends b }
