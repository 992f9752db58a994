use Rattle.std.proofs.Common.{refl, arith}
use Rattle.lw_genlib.proofs.Assignments.{one_truth}
use Rattle.lw_genlib.proofs.truth.have_one_truth.Goals as goal

pub returns : goal.returns
returns c = ((λ _. one_truth c.args.first.now c.args.other.now c.args.pins c.requires.few c.requires.first c.requires.other (λ b lt. c.loop-block.invariant b (omega arith))), (λ _. refl))
