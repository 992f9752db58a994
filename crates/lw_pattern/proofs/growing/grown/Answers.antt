use Rattle.std.proofs.Common.{◌≡◌, ◌<◌, ◌≤◌, false, length, get_or, subst, sym, ◌∙◌, arith}
use Rattle.lw_genlib.specs.declared.op.ExprOp.TheVariants.{Const}
use Rattle.lw_genlib.specs.Postfix.{arity, postfix, stepped}
use Rattle.lw_pattern.specs.Growing.{IsWideStep, trees_by}
use Rattle.lw_pattern.proofs.Running.{first_alone, next_is, next_takes, next_wide, starts, whole_long, whole_run, can_grow_whole}
use Rattle.lw_pattern.proofs.growing.grown.Goals as goal

pub loop-op-init : goal.loop-op-init
loop-op-init c = starts (trees_by c.args.way) (postfix c.args.form.now) c.new-stack.result.items c.new-stack.ensures.items (can_grow_whole c.args.form.now c.ops-op-items.ensures.wide)

pub grow-requires-clause-takes : goal.grow-requires-clause-takes
grow-requires-clause-takes c =
    let ops = postfix c.args.form.now in
    let e = c.ops-op-items.ensures.steps in
    let lt = subst (λ os. c.loop-op.op-index < length os) e c.loop-op-test.true in
    let takes = subst (λ os. arity (get_or os c.loop-op.op-index (Const false)) ≤ length c.loop-op.stack.items) (sym e) (next_takes (trees_by c.args.way) ops c.loop-op.op-index c.loop-op.stack.items c.loop-op.invariant lt) in
    omega arith

pub grow-requires-clause-wide : goal.grow-requires-clause-wide
grow-requires-clause-wide c =
    let ops = postfix c.args.form.now in
    let e = c.ops-op-items.ensures.steps in
    let lt = subst (λ os. c.loop-op.op-index < length os) e c.loop-op-test.true in
    subst (λ os. IsWideStep (get_or os c.loop-op.op-index (Const false))) (sym e) (next_wide (trees_by c.args.way) ops c.loop-op.op-index c.loop-op.stack.items c.loop-op.invariant lt)

pub loop-op-preserved : goal.loop-op-preserved
loop-op-preserved c =
    let ops = postfix c.args.form.now in
    let e = c.ops-op-items.ensures.steps in
    let lt = subst (λ os. c.loop-op.op-index < length os) e c.loop-op-test.true in
    let step = subst (λ os. c.grow.new.stack.items ≡ stepped (trees_by c.args.way) (get_or os c.loop-op.op-index (Const false)) c.loop-op.stack.items) e c.in_ok-grow.ensures in
    next_is (trees_by c.args.way) ops c.loop-op.op-index c.loop-op.stack.items c.loop-op.invariant lt c.grow.new.stack.items step

pub swap_remove-requires : goal.swap_remove-requires
swap_remove-requires c =
    let past = subst (λ os. length os ≤ c.loop-op.op-index) c.ops-op-items.ensures.steps (omega arith) in
    let long = whole_long (trees_by c.args.way) (postfix c.args.form.now) c.loop-op.op-index c.loop-op.stack.items c.loop-op.invariant past in
    omega arith

pub returns : goal.returns
returns c =
    let past = subst (λ os. length os ≤ c.loop-op.op-index) c.ops-op-items.ensures.steps (omega arith) in
    let long = whole_long (trees_by c.args.way) (postfix c.args.form.now) c.loop-op.op-index c.loop-op.stack.items c.loop-op.invariant past in
    let all = whole_run (trees_by c.args.way) (postfix c.args.form.now) c.loop-op.op-index c.loop-op.stack.items c.loop-op.invariant past in
    all ∙ first_alone c.loop-op.stack.items c.swap_remove.result long c.swap_remove.ensures.value
