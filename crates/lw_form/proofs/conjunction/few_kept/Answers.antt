use Rattle.std.proofs.Common.{◌∙◌, sym, subst, ap}
use Rattle.lw_form.proofs.Conjunctions.{KeepsSoFar, keeps_first, keeps_new, keeps_old, keeps_zero, keeps_all}
use Rattle.lw_form.proofs.conjunction.few_kept.Goals as goal
use Rattle.lw_form.proofs.conjunction.few_kept.Goals.{then-form-ne-TRUE+then-not-contains+in_ok-push, else-form-ne-TRUE, else-form-ne-TRUE-via-then-form-ne-TRUE+else-not-contains, else-form-ne-TRUE-via-else-form-ne-TRUE}

pub loop-form-init : goal.loop-form-init
loop-form-init c = keeps_first c.args.forms.now c.new-kept.result.items c.new-kept.ensures.items

pub loop-form-preserved : goal.loop-form-preserved
loop-form-preserved c =
    elim c.if-form-ne-TRUE.branch [
      | then-form-ne-TRUE+then-not-contains+in_ok-push w ↦
          let is = ap (λ s. s.items) w.kept-is ∙ w.in_ok-push.ensures.ok in
          let absent = rw w.deref.ensures at (sym w.contains.ensures.value ∙ w.if-not-contains.true) in
          subst (KeepsSoFar c.args.forms.now _) (sym is) (keeps_new c.args.forms.now c.loop-form.kept.items c.loop-form.form-index c.loop-form-test.true w.if-form-ne-TRUE.true absent c.loop-form.invariant)
      | else-form-ne-TRUE w ↦ subst (KeepsSoFar c.args.forms.now _) (sym (ap (λ s. s.items) w.kept-is)) (
          elim w.else-form-ne-TRUE.branch [
            | else-form-ne-TRUE-via-then-form-ne-TRUE+else-not-contains v ↦
                let there = rw v.deref.ensures at (sym v.contains.ensures.value ∙ v.if-not-contains.false) in
                keeps_old c.args.forms.now c.loop-form.kept.items c.loop-form.form-index c.loop-form-test.true v.if-form-ne-TRUE.true there c.loop-form.invariant
            | else-form-ne-TRUE-via-else-form-ne-TRUE v ↦ keeps_zero c.args.forms.now c.loop-form.kept.items c.loop-form.form-index c.loop-form-test.true v.if-form-ne-TRUE.false c.loop-form.invariant
          ])
    ]

pub returns : goal.returns
returns c = keeps_all c.args.forms.now c.loop-form.kept.items c.loop-form.form-index c.loop-form-test.false c.loop-form.invariant
