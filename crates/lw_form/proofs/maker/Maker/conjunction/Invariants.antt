use Rattle.std.proofs.Common.{length}
use Rattle.lw_form.proofs.Joining.{LeftSoFar}
use Rattle.lw_form.proofs.maker.Maker.conjunction.Given as goal

abbrev pub invariant-steps : goal.invariant-steps
invariant-steps l = LeftSoFar l.self.width l.fn.table l.table l.fn.forms l.left.items

abbrev pub decreases-steps : goal.decreases-steps
decreases-steps l = length l.left.items
