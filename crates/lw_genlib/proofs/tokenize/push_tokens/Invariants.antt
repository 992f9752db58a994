use Rattle.std.proofs.Common.{length}
use Rattle.lw_genlib.proofs.NameRuns.{Worded}
use Rattle.lw_genlib.proofs.tokenize.push_tokens.Given as goal

abbrev pub invariant-loop-byte : goal.invariant-loop-byte
invariant-loop-byte l = Worded l.given.word.now l.rest l.fn.tokens.items l.tokens.items

abbrev pub decreases-loop-byte : goal.decreases-loop-byte
decreases-loop-byte l = length l.rest
