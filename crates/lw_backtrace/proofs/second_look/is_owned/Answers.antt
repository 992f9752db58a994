use Rattle.std.proofs.Common.{arith}
use Rattle.lw_choices.proofs.Lists.{read_at}
use Rattle.lw_backtrace.proofs.second_look.is_owned.Goals as goal

pub returns : goal.returns
returns c = λ yes. (
  c.index-owners-class.result,
  read_at c.args.owners.now c.args.node.class.0 c.index-owners-class.result (omega (arith, c.if-class-owners.false)) c.index-owners-class.is,
  read_at c.index-owners-class.result.items c.args.node.place c.args.number (omega (arith, c.if-place-len.false, c.len.ensures)) (cc),
)
