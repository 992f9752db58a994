use Rattle.std.proofs.Common.{rules}
use Rattle.lw_sweep.proofs.Equals.{equal_stands_odd}
use Rattle.lw_sweep.proofs.sweep.Sweep.let_equal.Goals as goal

pub let_stand-requires-clause-stands : goal.let_stand-requires-clause-stands
let_stand-requires-clause-stands c = equal_stands_odd c.args.self.now c.args.literal c.args.stand c.flip.result c.node-then-literal-eq1.result c.node-then-literal-eq1.ensures c.flip.ensures (search rules) c.requires c.if-literal-eq1.true
