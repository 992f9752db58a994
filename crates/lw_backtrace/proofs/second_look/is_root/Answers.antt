use Rattle.std.proofs.Common.{inl, inr, subst}
use Rattle.lw_backtrace.specs.declared.wants.Want.{Want}
use Rattle.lw_backtrace.specs.SecondLook.{IsNetBy}
use Rattle.lw_backtrace.proofs.second_look.is_root.Goals as goal

pub returns-then-is_net : goal.returns-then-is_net
returns-then-is_net c = λ yes. record { right = inl (subst (λ (w : Want). IsNetBy c.args.plan.now c.args.trail.now w c.args.net) c.root_want.ensures (c.is_net.ensures c.if-is_net.true)) }

pub returns-then-is_cut : goal.returns-then-is_cut
returns-then-is_cut c = λ yes. record { right = inr (c.is_cut.ensures c.if-is_cut.true, subst (λ (w : Want). IsNetBy c.args.plan.now c.args.trail.now w c.args.net) c.root_want-then-is_cut.ensures (c.is_net-then-is_cut.ensures yes)) }
