use Rattle.std.proofs.Common.{◌∙◌, sym, subst, ap}
use Rattle.std.proofs.lemmas.List.{nil_from_length}
use Rattle.lw_form.proofs.Conjunctions.{KeepsSoFar, keeps_first, keeps_one, keeps_zero, keeps_all}
use Rattle.lw_form.proofs.conjunction.kept.Goals as goal
use Rattle.lw_form.proofs.conjunction.kept.Goals.{then-form-ne-TRUE+in_ok-insert, else-form-ne-TRUE}

pub loop-form-init : goal.loop-form-init
loop-form-init c = keeps_first c.args.forms.now c.new-kept.result.keys (nil_from_length c.new-kept.result.keys c.new-kept.ensures.len)

pub loop-form-preserved : goal.loop-form-preserved
loop-form-preserved c =
    elim c.if-form-ne-TRUE.branch [
      | then-form-ne-TRUE+in_ok-insert w ↦ subst (KeepsSoFar c.args.forms.now _) (sym (ap (λ s. s.keys) w.kept-is ∙ w.in_ok-insert.ensures.keys)) (keeps_one c.args.forms.now c.loop-form.kept.keys c.loop-form.form-index c.loop-form-test.true w.if-form-ne-TRUE.true c.loop-form.invariant)
      | else-form-ne-TRUE w ↦ subst (KeepsSoFar c.args.forms.now _) (sym (ap (λ s. s.keys) w.kept-is)) (keeps_zero c.args.forms.now c.loop-form.kept.keys c.loop-form.form-index c.loop-form-test.true w.if-form-ne-TRUE.false c.loop-form.invariant)
    ]

pub returns : goal.returns
returns c = keeps_all c.args.forms.now c.loop-form.kept.keys c.loop-form.form-index c.loop-form-test.false c.loop-form.invariant
