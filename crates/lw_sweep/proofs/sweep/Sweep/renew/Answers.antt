use Rattle.lw_sweep.proofs.Equals.{equal_conjunction}
use Rattle.lw_sweep.proofs.sweep.Sweep.renew.Goals as goal

pub let_equal-requires : goal.let_equal-requires
let_equal-requires c =
    let both = rw c.in-Some-2.is at c.in_ok-literal.ensures.conjunction in
    equal_conjunction c.args.self.now c.plain.new.self c.args.node _ _ c.stand_of-left.result c.stand_of-right.result c.in-Some-2.literal c.stand_of-stand.result c.of.result c.in-Some.ensures c.of.ensures c.stand_of-left.ensures c.stand_of-right.ensures c.plain.ensures.grows both c.stand_of-stand.ensures
