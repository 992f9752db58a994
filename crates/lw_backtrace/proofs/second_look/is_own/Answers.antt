use Rattle.std.proofs.Common.{subst}
use Rattle.lw_backtrace.specs.SecondLook.{IsOwned}
use Rattle.lw_backtrace.proofs.second_look.is_own.Goals as goal

pub returns-then-node : goal.returns-then-node
returns-then-node c so = record {
  exact = λ _. subst (λ os. IsOwned os c.args.node c.args.number) c.deref.ensures.value (c.is_owned.ensures so);
  shared = λ no. absurd (cc);
}
