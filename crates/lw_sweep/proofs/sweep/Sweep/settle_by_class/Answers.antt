use Rattle.std.proofs.Common.{subst, sym}
use Rattle.lw_sweep.specs.Sweeps.{StandsFor}
use Rattle.lw_sweep.proofs.Equals.{equal_own}
use Rattle.lw_sweep.proofs.sweep.Sweep.settle_by_class.Goals as goal

pub let_equal-requires : goal.let_equal-requires
let_equal-requires c =
    let stands = subst (λ gates. StandsFor gates c.args.node c.in_ok-literal.literal) (sym c.seek.ensures.kept) c.in_ok-literal.ensures.stands in
    equal_own c.seek.new.self c.args.node c.of.result c.in_ok-literal.literal c.stand_of-stand.result c.of.ensures stands c.stand_of-stand.ensures
