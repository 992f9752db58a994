use Rattle.std.proofs.Common.{arith, ap, ◌∙◌, length, length-append}
use Rattle.lw_form.proofs.Parts.{picked_one, picked_none}
use Rattle.lw_form.proofs.ids.FormIds.picked.Goals as goal
use Rattle.lw_form.proofs.ids.FormIds.picked.Goals.{then-rest-eq1, else-rest-eq1}

pub loop-id-preserved : goal.loop-id-preserved
loop-id-preserved c =
    elim c.if-rest-eq1.branch [
      | then-rest-eq1 w ↦ record {
        so_far = picked_one c.loop-id.part c.if-rest-eq1.part _ _ c.loop-id.id-index c.loop-id.rest c.loop-id-test.true w.if-rest-eq1.true (w.part-is ∙ w.push.ensures) c.loop-id.invariant.so_far;
        few = let e = ap length (w.part-is ∙ w.push.ensures) in let few = c.loop-id.invariant.few in let k = rw length-append at e in omega arith;
      }
      | else-rest-eq1 w ↦ record {
        so_far = picked_none c.loop-id.part c.if-rest-eq1.part _ _ c.loop-id.id-index c.loop-id.rest c.loop-id-test.true w.if-rest-eq1.false w.part-is c.loop-id.invariant.so_far;
        few = let e = ap length w.part-is in let few = c.loop-id.invariant.few in omega arith;
      }
    ]
