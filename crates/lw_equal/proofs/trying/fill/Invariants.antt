use Rattle.std.proofs.Common.{◌≡◌, length}
use Rattle.lw_equal.proofs.Tried.{AreWordsTo}
use Rattle.lw_equal.proofs.trying.fill.Given as goal

abbrev pub invariant-loop-node : goal.invariant-loop-node
invariant-loop-node l = record { size : length l.words ≡ length l.gates; are : AreWordsTo l.gates l.node l.block l.words }
