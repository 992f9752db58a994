use Rattle.std.proofs.Common.{arith}
use Rattle.lw_genlib.specs.Runs.{word_by}
use Rattle.lw_genlib.proofs.Stacks.{stack_stepped}
use Rattle.lw_genlib.proofs.eval.step.Goals as goal

pub returns-clause-stack : goal.returns-clause-stack
returns-clause-stack c = stack_stepped (word_by c.args.pins.now) c.args.op c.args.stack.now c.args.size _ _ (omega arith) (omega arith) (omega arith) c.word_by-word.ensures
