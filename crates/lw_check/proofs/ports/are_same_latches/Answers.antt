use Rattle.std.proofs.Common.{refl, arith}
use Rattle.lw_check.proofs.Places.{same_lists}
use Rattle.lw_check.proofs.ports.are_same_latches.Goals as goal

pub returns : goal.returns
returns c = (
  λ t. same_lists c.args.left.now c.args.right.now c.if-left-right.false (λ j lt. (let all = c.loop-k-test.false in c.loop-k.invariant j (omega arith))),
  λ e. refl,
)
