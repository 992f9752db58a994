use Rattle.std.proofs.Common.{length}
use Rattle.std.specs.Vec.Iter.{into_iter_items}
use Rattle.lw_form.specs.Factoring.{plain_literal}
use Rattle.lw_form.proofs.FactoringSteps.{CutSoFar}
use Rattle.lw_form.proofs.factoring.cut_by.Given as goal

abbrev pub invariant-rows : goal.invariant-rows
invariant-rows l = CutSoFar (plain_literal l.literal) l.fn.rows.items (into_iter_items l.left) l.cut.having.items l.cut.others.items

abbrev pub decreases-rows : goal.decreases-rows
decreases-rows l = length (into_iter_items l.left)
