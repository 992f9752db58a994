use Rattle.std.proofs.Common.{arith}
use Rattle.std.proofs.lemmas.Grind.{common_steps}
use Rattle.lw_frame.specs.Starts.{start_said}
use Rattle.lw_frame.proofs.start.read_start.Goals as goal

pub returns-in_err-rise-clause-start : goal.returns-in_err-rise-clause-start
unfolding start_said
returns-in_err-rise-clause-start c = grind (arith, common_steps)

pub returns-in_err-fall-clause-start : goal.returns-in_err-fall-clause-start
unfolding start_said
returns-in_err-fall-clause-start c = grind (arith, common_steps)

pub returns-clause-start : goal.returns-clause-start
unfolding start_said
returns-clause-start c = grind (arith, common_steps)
