use Rattle.lw_form.proofs.Conjunctions.{KeepsSoFar}
use Rattle.lw_form.proofs.conjunction.few_kept.Given as goal

abbrev pub invariant-loop-form : goal.invariant-loop-form
invariant-loop-form l = KeepsSoFar l.forms l.form-index l.kept.items
