use Rattle.std.proofs.Common.{◌≡◌, take}
use Rattle.lw_form.proofs.conjunction.operands.Given as goal

abbrev pub invariant-loop-form : goal.invariant-loop-form
invariant-loop-form l = l.ids ≡ take l.form-index l.forms
