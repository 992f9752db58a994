use Rattle.std.proofs.Common.{◌∙◌, ap, length}
use Rattle.lw_sweep.proofs.Equals.{pushed_own}
use Rattle.lw_sweep.proofs.sweep.Sweep.append.Goals as goal

pub returns-clause-conjunction : goal.returns-clause-conjunction
returns-clause-conjunction c =
    pushed_own c.args.self.now c.push.new.self (length c.gates.result.now) c.args.left c.args.right c.of.result c.in_ok-push.ensures (ap length (c.gates.ensures.gates ∙ c.aig.ensures)) c.of.ensures
