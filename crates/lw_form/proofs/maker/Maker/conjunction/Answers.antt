use Rattle.std.proofs.Common.{refl, sym, subst, List, ℕ, length}
use Rattle.lw_laws.specs.Forms.{conjunction}
use Rattle.lw_form.specs.Conjunctions.{IsStep}
use Rattle.lw_form.specs.Tables.{AreBelow, IsMadeAs, made, forms_at}
use Rattle.lw_form.specs.declared.conjunction.Step.TheVariants.{Again}
use Rattle.lw_form.proofs.Joining.{more_same, left_more, left_done}
use Rattle.lw_form.proofs.maker.Maker.conjunction.Goals as goal

pub shortened-requires : goal.shortened-requires
shortened-requires c = c.requires

pub returns-in-Done : goal.returns-in-Done
returns-in-Done c = subst (IsStep c.args.self.now.width c.args.table.now c.shortened.new.table c.args.forms.now) c.in-Done.is c.in_ok-form.ensures

pub steps-init : goal.steps-init
steps-init c =
    left_more c.args.self.now.width c.args.table.now c.args.table.now c.shortened.new.table c.args.forms.now c.args.forms.now c.in-Again.groups.items (record { more = more_same (made c.args.table.now); below = c.requires; same = refl })
    (subst (IsStep c.args.self.now.width c.args.table.now c.shortened.new.table c.args.forms.now) c.in-Again.is c.in_ok-form.ensures)

pub shortened-requires-in-steps : goal.shortened-requires-in-steps
shortened-requires-in-steps c = subst (AreBelow (length (made c.steps.table))) (sym c.deref.ensures.value) c.steps.invariant.below

pub returns-in-Done-2 : goal.returns-in-Done-2
returns-in-Done-2 c =
    left_done c.args.self.now.width c.args.table.now c.steps.table c.shortened-in-steps.new.table c.args.forms.now c.steps.left.items c.in-Done-2.form c.steps.invariant
    (subst (λ (l : List ℕ). IsMadeAs c.steps.table c.shortened-in-steps.new.table c.in-Done-2.form (conjunction c.args.self.now.width (forms_at (made c.steps.table) l))) c.deref.ensures.value
    (subst (IsStep c.args.self.now.width c.steps.table c.shortened-in-steps.new.table c.deref.result.now) c.in-Done-2.is c.in_ok-form-2.ensures))

pub steps-smaller : goal.steps-smaller
steps-smaller c =
    let (hs, m, e, lt) = subst (λ (l : List ℕ). IsStep c.args.self.now.width c.steps.table c.shortened-in-steps.new.table l (Again c.in-Again-2.groups)) c.deref.ensures.value (subst (IsStep c.args.self.now.width c.steps.table c.shortened-in-steps.new.table c.deref.result.now) c.in-Again-2.is c.in_ok-form-2.ensures) in
    lt

pub steps-preserved : goal.steps-preserved
steps-preserved c =
    left_more c.args.self.now.width c.args.table.now c.steps.table c.shortened-in-steps.new.table c.args.forms.now c.steps.left.items c.in-Again-2.groups.items c.steps.invariant
    (subst (λ (l : List ℕ). IsStep c.args.self.now.width c.steps.table c.shortened-in-steps.new.table l (Again c.in-Again-2.groups)) c.deref.ensures.value (subst (IsStep c.args.self.now.width c.steps.table c.shortened-in-steps.new.table c.deref.result.now) c.in-Again-2.is c.in_ok-form-2.ensures))
