use Rattle.std.proofs.Common.{length}
use Rattle.lw_genlib.specs.Runs.{word_by}
use Rattle.lw_genlib.proofs.Running.{IsRunning}
use Rattle.lw_genlib.proofs.eval.run_words.Given as goal

abbrev pub invariant-loop-op : goal.invariant-loop-op
invariant-loop-op l = IsRunning (word_by l.pins) (length l.pins) l.ops l.op-index l.size l.stack
