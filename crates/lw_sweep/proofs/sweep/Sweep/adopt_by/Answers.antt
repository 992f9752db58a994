use Rattle.lw_sweep.proofs.Equals.{equal_adopted_by}
use Rattle.lw_sweep.proofs.sweep.Sweep.adopt_by.Goals as goal

pub let_equal-requires : goal.let_equal-requires
let_equal-requires c =
    equal_adopted_by c.args.self.now c.are_same.new.self c.stand_of-own.result c.args.through c.args.other c.stand_of-stand.result c.are_same.ensures.kept c.stand_of-own.ensures (c.in_ok-are_same.ensures.same c.if-not-branch.false) c.stand_of-stand.ensures
