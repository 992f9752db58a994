use Rattle.std.proofs.Common.{Some, ◌+◌, ◌∙◌, arith}
use Rattle.lw_check.specs.Least.{lesser_of}
use Rattle.lw_check.proofs.Inputs.{IsLeafCostBefore, cost_all, cost_more, cost_same, least_on}
use Rattle.lw_check.proofs.Lesser.{other_number, same_number}
use Rattle.lw_check.proofs.labels.least_input.Goals as goal
use Rattle.lw_check.proofs.labels.least_input.Goals.{then-eq, else-eq}

pub loop-input-preserved : goal.loop-input-preserved
loop-input-preserved g c =
    let graph = c.args.graph.now in
    let cost = g.C.Cost.costs c.args.cost.now in
    let class = c.args.class.0 in
    let input = c.loop-input.input in
    let here = c.leaf.result.0 in
    let old = c.loop-input.least in
    elim c.if-eq.branch [
      | then-eq w ↦
          least_on (IsLeafCostBefore graph cost class (input + 1)) c.if-eq.least (lesser_of old (Some w.leaf-then-eq.result)) (w.least-is ∙ w.lesser-least.ensures)
          (cost_more graph cost class input here w.leaf-then-eq.result old c.leaf.ensures.class (same_number here class c.eq.result c.eq.ensures w.if-eq.true) w.leaf-then-eq.ensures c.loop-input.invariant)
      | else-eq w ↦
          least_on (IsLeafCostBefore graph cost class (input + 1)) c.if-eq.least old w.least-is
          (cost_same graph cost class input here old c.leaf.ensures.class (other_number here class c.eq.result c.eq.ensures w.if-eq.false) c.loop-input.invariant)
    ]

pub returns : goal.returns
returns g c =
    let all = c.loop-input-test.false in
    let inputs = c.inputs-input-end.ensures.inputs in
    cost_all c.args.graph.now (g.C.Cost.costs c.args.cost.now) c.args.class.0 c.loop-input.input c.loop-input.least (omega arith) c.loop-input.invariant
