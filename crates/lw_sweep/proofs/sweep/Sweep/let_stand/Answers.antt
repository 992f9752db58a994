use Rattle.std.proofs.Common.{◌<◌, length, subst, sym}
use Rattle.lw_sweep.specs.Sweeps.{StandsFor}
use Rattle.lw_sweep.proofs.Standing.{stands_set}
use Rattle.lw_sweep.proofs.sweep.Sweep.let_stand.Goals as goal

pub invariant_of-self : goal.invariant_of-self
invariant_of-self c =
    stands_set c.self.inside.search c.self.inside.stands.items c.args.node c.args.literal c.self.invariant
    (subst (λ gs. c.args.node < length gs) (sym c.self.view_is) c.requires.node)
    (subst (λ gs. StandsFor gs c.args.node c.args.literal) (sym c.self.view_is) c.requires.stands)
