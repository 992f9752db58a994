use Rattle.std.proofs.Common.{◌∙◌, sym}
use Rattle.lw_form.proofs.Conjunctions.{clash_found, clash_on}
use Rattle.lw_form.proofs.conjunction.few_clash.Goals as goal

pub returns-then-contains-2 : goal.returns-then-contains-2
returns-then-contains-2 c = clash_found c.args.kept.now c.loop-form.form-index c.loop-form-test.true (sym c.contains.ensures.value ∙ c.if-contains.false) (sym c.contains-in-loop-form.ensures.value ∙ c.if-contains-2.true) c.loop-form.invariant

pub loop-form-preserved : goal.loop-form-preserved
loop-form-preserved c = clash_on c.args.kept.now c.loop-form.form-index c.loop-form-test.true (sym c.contains-in-loop-form.ensures.value ∙ c.if-contains-2.false) c.loop-form.invariant
