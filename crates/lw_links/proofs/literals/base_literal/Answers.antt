use Rattle.std.proofs.Common.{Some, ap, arith, refl, subst, ◌∙◌}
use Rattle.lw_aig.specs.Aigs.{IsAig}
use Rattle.lw_form.specs.Bases.{plain_base}
use Rattle.lw_sweep.proofs.Growing.{extended_itself}
use Rattle.lw_links.proofs.Ands.{input_known}
use Rattle.lw_links.proofs.Standing.{input_stands, true_stands}
use Rattle.lw_links.proofs.literals.base_literal.Goals as goal

pub overflow_add-input : goal.overflow_add-input
overflow_add-input c =
    let kept = c.base.ensures.kept in
    let low = input_known c.args.forms.now kept c.args.b c.in-Input.input (c.base.ensures.base ∙ ap (λ b. Some (plain_base b)) c.in-Input.is) c.requires.within in
    omega (arith, low, kept.nets.some, kept.nets.few)

pub of-requires : goal.of-requires
of-requires c =
    let kept = c.base.ensures.kept in
    let low = input_known c.args.forms.now kept c.args.b c.in-Input.input (c.base.ensures.base ∙ ap (λ b. Some (plain_base b)) c.in-Input.is) c.requires.within in
    omega (arith, low, kept.nets.some, kept.nets.few)

pub and_literal-requires-clause-is : goal.and_literal-requires-clause-is
and_literal-requires-clause-is c = c.base.ensures.base ∙ ap (λ b. Some (plain_base b)) c.in-And.is

pub returns-in-True-clause-grows : goal.returns-in-True-clause-grows
returns-in-True-clause-grows c = extended_itself c.args.sweep.now

pub returns-in-True-clause-literal : goal.returns-in-True-clause-literal
returns-in-True-clause-literal c =
    true_stands c.args.sweep.now c.args.forms.now c.args.b (record { 0 = 1 }) (subst IsAig c.aig.ensures c.gates.ensures.kept) (c.base.ensures.base ∙ ap (λ b. Some (plain_base b)) c.in-True.is) refl

pub returns-in-Input-clause-grows : goal.returns-in-Input-clause-grows
returns-in-Input-clause-grows c = extended_itself c.args.sweep.now

pub returns-in-Input-clause-literal : goal.returns-in-Input-clause-literal
returns-in-Input-clause-literal c =
    let at = c.base.ensures.base ∙ ap (λ b. Some (plain_base b)) c.in-Input.is in
    let low = input_known c.args.forms.now c.base.ensures.kept c.args.b c.in-Input.input at c.requires.within in
    input_stands c.args.sweep.now c.args.forms.now c.args.b c.in-Input.input c.of.result c.requires.stand.inputs at low c.of.ensures
