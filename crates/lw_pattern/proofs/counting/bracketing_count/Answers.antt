use Rattle.std.proofs.Common.{◌≡◌, ◌<◌, ◌≤◌, false, length, get_or, subst, sym, ap, ◌∙◌, arith}
use Rattle.lw_genlib.specs.declared.op.ExprOp.TheVariants.{Const}
use Rattle.lw_genlib.specs.Postfix.{arity, postfix, stepped}
use Rattle.lw_pattern.specs.Growing.{count_by}
use Rattle.lw_pattern.proofs.Meanings.{count_left}
use Rattle.lw_pattern.proofs.Running.{starts, can_grow_whole, next_is, next_takes, whole_long, whole_run, first_alone}
use Rattle.lw_pattern.proofs.counting.bracketing_count.Goals as goal

pub loop-op-init : goal.loop-op-init
loop-op-init c = starts count_by (postfix c.args.form.now) c.new-stack.result.items c.new-stack.ensures.items (can_grow_whole c.args.form.now c.ops-op-items.ensures.wide)

pub count-requires : goal.count-requires
count-requires c =
    let e = c.ops-op-items.ensures.steps in
    let lt = subst (λ os. c.loop-op.op-index < length os) e c.loop-op-test.true in
    let takes = subst (λ os. arity (get_or os c.loop-op.op-index (Const false)) ≤ length c.loop-op.stack.items) (sym e) (next_takes count_by (postfix c.args.form.now) c.loop-op.op-index c.loop-op.stack.items c.loop-op.invariant lt) in
    omega arith

pub loop-op-preserved : goal.loop-op-preserved
loop-op-preserved c =
    let e = c.ops-op-items.ensures.steps in
    let lt = subst (λ os. c.loop-op.op-index < length os) e c.loop-op-test.true in
    let step = subst (λ os. c.count.new.stack.items ≡ stepped count_by (get_or os c.loop-op.op-index (Const false)) c.loop-op.stack.items) e c.in_ok-count.ensures in
    next_is count_by (postfix c.args.form.now) c.loop-op.op-index c.loop-op.stack.items c.loop-op.invariant lt c.count.new.stack.items step

pub index-requires : goal.index-requires
index-requires c =
    let past = subst (λ os. length os ≤ c.loop-op.op-index) c.ops-op-items.ensures.steps (omega arith) in
    let long = whole_long count_by (postfix c.args.form.now) c.loop-op.op-index c.loop-op.stack.items c.loop-op.invariant past in
    omega arith

pub returns : goal.returns
returns c =
    let size : length c.ops-op-items.result.now ≡ length (postfix c.args.form.now) = ap length c.ops-op-items.ensures.steps in
    let past : length (postfix c.args.form.now) ≤ c.loop-op.op-index = omega arith in
    let long = whole_long count_by (postfix c.args.form.now) c.loop-op.op-index c.loop-op.stack.items c.loop-op.invariant past in
    let left = whole_run count_by (postfix c.args.form.now) c.loop-op.op-index c.loop-op.stack.items c.loop-op.invariant past in
    count_left c.args.form.now c.index.result.now (left ∙ first_alone c.loop-op.stack.items c.index.result.now long c.index.ensures)
