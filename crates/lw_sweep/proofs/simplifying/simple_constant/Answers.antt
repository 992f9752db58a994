use Rattle.lw_sweep.proofs.Simple.{left_one, left_zero, right_one, right_zero}
use Rattle.lw_sweep.proofs.simplifying.simple_constant.Goals as goal

pub returns-then-left-eq0 : goal.returns-then-left-eq0
returns-then-left-eq0 c = left_zero c.args.left c.args.right c.if-left-eq0.true

pub returns-then-right-eq0 : goal.returns-then-right-eq0
returns-then-right-eq0 c = right_zero c.args.left c.args.right c.if-right-eq0.true

pub returns-then-left-eq1 : goal.returns-then-left-eq1
returns-then-left-eq1 c = left_one c.args.left c.args.right c.if-left-eq1.true

pub returns-then-right-eq1 : goal.returns-then-right-eq1
returns-then-right-eq1 c = right_one c.args.left c.args.right c.if-right-eq1.true
