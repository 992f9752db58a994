use Rattle.std.proofs.Common.{◌∙◌, ap, length}
use Rattle.lw_aig.specs.declared.gate.Gate.TheVariants.{And}
use Rattle.lw_sweep.proofs.Growing.{grown, pushed_conjunction}
use Rattle.lw_sweep.proofs.sweep.Sweep.add.Goals as goal

pub returns-in_err-literal-clause-grows : goal.returns-in_err-literal-clause-grows
returns-in_err-literal-clause-grows c = grown c.args.self.now c.push.new.self c.settle.new.self (And c.args.left c.args.right) c.in_ok-push.ensures c.settle.ensures.grows

pub returns-clause-grows : goal.returns-clause-grows
returns-clause-grows c = grown c.args.self.now c.push.new.self c.settle.new.self (And c.args.left c.args.right) c.in_ok-push.ensures c.settle.ensures.grows

pub returns-clause-conjunction : goal.returns-clause-conjunction
returns-clause-conjunction c =
    pushed_conjunction c.args.self.now c.push.new.self c.settle.new.self (length c.gates.result.now) c.args.left c.args.right c.in_ok-literal.literal c.in_ok-push.ensures (ap length (c.gates.ensures.gates ∙ (c.aig.ensures ∙ c.self.view_is))) c.settle.ensures.grows c.in_ok-literal.ensures.stands
