use Rattle.std.proofs.Common.{arith}
use Rattle.lw_curves.proofs.Falling.{lowered_none}
use Rattle.lw_curves.proofs.tallies.lower_tally.Goals as goal

pub returns-then-number-tallies : goal.returns-then-number-tallies
returns-then-number-tallies c = lowered_none c.args.tallies.now c.args.number c.args.fall (omega (arith, c.if-number-tallies.true))
