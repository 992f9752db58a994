use Rattle.lw_pattern.specs.Growing.{count_by}
use Rattle.lw_genlib.specs.Postfix.{postfix}
use Rattle.lw_pattern.proofs.Running.{IsGrowing}
use Rattle.lw_pattern.proofs.counting.bracketing_count.Given as goal

abbrev pub invariant-loop-op : goal.invariant-loop-op
invariant-loop-op l = IsGrowing count_by (postfix l.form) l.op-index l.stack.items
