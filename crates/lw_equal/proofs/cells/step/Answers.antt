use Rattle.std.proofs.Common.{◌≡◌, ◌-◌, ◌++◌, ◌∷◌, ◌∙◌, [], ap, arith, drop, length, subst, sym}
use Rattle.lw_genlib.specs.Postfix.{arity}
use Rattle.lw_equal.specs.Cells.{IsMade, IsStep}
use Rattle.lw_equal.proofs.Steps.{behind, stack_step}
use Rattle.lw_equal.proofs.cells.step.Goals as goal

pub returns-clause-stack : goal.returns-clause-stack
returns-clause-stack c = λ _.
    let old = c.args.sweep.now in
    let new = c.literal_by.new.sweep in
    let pins = c.args.pins.now in
    let op = c.args.op in
    let stack = c.args.stack.now.items in
    let l = c.in-Some.literal in
    let base = c.len.result - c.from.result in
    let is_base : base ≡ length stack - arity op = omega (arith, c.len.ensures, c.from.ensures, c.arity.ensures) in
    let is = rw c.in-Some.is at c.in_ok-literal.ensures.literal in
    let part = subst (λ ps. IsMade new pins op ps l) (behind base c.deref.result.now) is in
    let made = subst (λ ls. IsMade new pins op (drop base ls) l) c.deref.ensures.value part in
    subst (IsStep new pins op stack) (sym (c.in_ok-push.ensures.items ∙ ap (λ s. s ++ l ∷ []) c.truncate.ensures.items))
    (stack_step old new pins op stack base l c.literal_by.ensures.grows c.requires.takes is_base c.requires.stack made)
