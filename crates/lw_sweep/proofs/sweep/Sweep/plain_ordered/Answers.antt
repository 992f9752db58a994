use Rattle.std.proofs.Common.{◌∙◌, ap, slice_get, sym}
use Rattle.lw_sweep.proofs.Equals.{own_conjunction}
use Rattle.lw_sweep.proofs.sweep.Sweep.plain_ordered.Goals as goal

pub returns-in-Some-find-clause-conjunction : goal.returns-in-Some-find-clause-conjunction
returns-in-Some-find-clause-conjunction c =
    own_conjunction c.args.self.now c.in-Some-find.node c.args.left c.args.right c.of.result (ap (λ gs. slice_get gs c.in-Some-find.node) (sym c.aig-2.ensures) ∙ c.in-Some-find.ensures) c.of.ensures
