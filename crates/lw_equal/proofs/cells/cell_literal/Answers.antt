use Rattle.std.proofs.Common.{◌≤◌, List, false, get_or, length, subst, sym}
use Rattle.std.proofs.lemmas.List.{get_or_default}
use Rattle.lw_genlib.specs.declared.op.ExprOp.{ExprOp}
use Rattle.lw_genlib.specs.declared.op.ExprOp.TheVariants.{Const}
use Rattle.lw_laws.specs.Expressions.{expr_value}
use Rattle.lw_laws.specs.Networks.{given}
use Rattle.lw_sweep.proofs.Growing.{extended_both, extended_itself}
use Rattle.lw_equal.specs.Cells.{Makes}
use Rattle.lw_equal.proofs.Steps.{CanRun, IsRunning, cell_of_form, form_can_run, runs_on, starts, whole_run}
use Rattle.lw_equal.proofs.cells.cell_literal.Goals as goal

pub steps-init : goal.steps-init
steps-init c =
    let gates = c.args.sweep.now in
    let pins = c.args.pins.now in
    let ops = c.ops-ops.result.now in
    let can = form_can_run c.args.cell.now c.forms.result.now c.index-forms-0.result c.forms.ensures.kept c.forms.ensures.forms c.index-forms-0.is _ c.requires.one_each in
    record {
      grown = extended_itself gates;
      running = subst (IsRunning gates pins ops 0) (sym c.clear.ensures.items) (starts gates pins ops (subst (CanRun _ 0) (sym c.ops-ops.ensures.steps) can));
    }

pub steps-preserved : goal.steps-preserved
steps-preserved c =
    let before = c.steps.sweep in
    let after = c.step.new.sweep in
    let grows = c.step.ensures.grows in
    let ops = c.ops-ops.result.now in
    let i = c.steps.op-index in
    let lt = c.steps-test.true in
    let op = get_or ops i (Const false) in
    let step = c.in_ok-step.ensures.stack c.if-not-branch.false in
    record {
      grown = extended_both c.args.sweep.now before after c.steps.invariant.grown grows;
      running = runs_on before c.args.pins.now ops i c.steps.stack.items op c.steps.invariant.running lt (get_or_default ops i (Const false) op lt) after c.step.new.stack.items grows step;
    }

pub returns-clause-literal : goal.returns-clause-literal
returns-clause-literal c =
    let gates = c.steps.sweep in
    let pins = c.args.pins.now in
    let e = c.index-forms-0.result in
    let l = c.index.result.now in
    let stack = c.steps.stack.items in
    let i = c.steps.op-index in
    let steps = c.ops-ops.ensures.steps in
    let running = subst (λ ops. IsRunning gates pins ops i stack) steps c.steps.invariant.running in
    let past = subst (λ (ops : List ExprOp). length ops ≤ i) steps c.steps-test.false in
    let made = whole_run gates pins e i stack l running past in
    cell_of_form c.args.cell.now c.forms.result.now e c.forms.ensures.kept c.forms.ensures.forms c.index-forms-0.is gates pins l
    (subst (Makes gates pins (λ ys. expr_value (given ys) e)) (sym c.index.ensures) made.1)
