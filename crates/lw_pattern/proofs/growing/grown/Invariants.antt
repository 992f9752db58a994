use Rattle.lw_pattern.specs.Growing.{trees_by}
use Rattle.lw_genlib.specs.Postfix.{postfix}
use Rattle.lw_pattern.proofs.Running.{IsGrowing}
use Rattle.lw_pattern.proofs.growing.grown.Given as goal

abbrev pub invariant-loop-op : goal.invariant-loop-op
invariant-loop-op l = IsGrowing (trees_by l.way) (postfix l.form) l.op-index l.stack.items
