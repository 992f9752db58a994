use Rattle.lw_sweep.proofs.Equals.{equal_adopted}
use Rattle.lw_sweep.proofs.sweep.Sweep.adopt.Goals as goal

pub let_equal-requires : goal.let_equal-requires
let_equal-requires c =
    equal_adopted c.args.self.now c.are_same.new.self c.args.literal c.args.other c.stand_of-stand.result c.are_same.ensures.kept (c.in_ok-are_same.ensures.same c.if-not-branch.false) c.stand_of-stand.ensures
