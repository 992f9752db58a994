use Rattle.std.proofs.Common.{◌<◌, ◌≤◌, ◌∙◌, None, length, subst₂, arith}
use Rattle.std.proofs.lemmas.List.{get_or_default}
use Rattle.lw_label.specs.Lowering.{IsLowerOf}
use Rattle.lw_label.proofs.Inputs.{inputs_lower, inputs_end}
use Rattle.lw_label.proofs.lowering.label_inputs.Goals as goal

pub loop-input-preserved : goal.loop-input-preserved
loop-input-preserved g c =
    let marks = c.loop-input.marks.items in
    let class = c.leaf-class.result.0 in
    let below : class < length marks = omega (arith, c.leaf-class.ensures.within, c.loop-input.invariant.one_each) in
    inputs_lower c.args.graph.now (g.C.Cost.costs c.args.cost.now) c.loop-input.input class marks c.with_leaf.result c.leaf-class.ensures.class below c.loop-input.invariant
    (subst₂ (λ o n. IsLowerOf o n c.with_leaf.result) (c.index.ensures ∙ get_or_default marks class c.index.result.now None below) c.leaf.ensures c.with_leaf.ensures)

pub returns : goal.returns
returns g c = λ pats.
    let all : length c.args.graph.now.leaves ≤ c.loop-input.input = omega (arith, c.inputs-input-end.ensures.inputs, c.loop-input-test.false) in
    inputs_end c.args.graph.now (g.C.Cost.costs c.args.cost.now) pats c.loop-input.input c.loop-input.marks.items all c.loop-input.invariant
