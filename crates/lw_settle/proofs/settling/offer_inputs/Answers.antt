use Rattle.std.proofs.Common.{ℕ, ap, arith}
use Rattle.lw_cost.specs.declared.mark.Mark.{Mark}
use Rattle.lw_settle.proofs.Rising.{inputs_more}
use Rattle.lw_laws.specs.Marks.{Mark as PlainMark}
use Rattle.lw_settle.proofs.settling.offer_inputs.Goals as goal

pub offer-requires-clause-class : goal.offer-requires-clause-class
offer-requires-clause-class g c = omega (arith, c.loop-input.invariant.one_each, c.leaf-in-loop-input.ensures.within)

pub loop-input-preserved : goal.loop-input-preserved
loop-input-preserved g c =
    let m : Mark = record { cost = c.leaf.result; height = 0 } in
    let leaf = c.leaf-in-loop-input in
    let make : ℕ → PlainMark = λ x. record { cost = x; height = 0 } in
    inputs_more c.args.graph.now (g.C.Cost.costs c.args.cost.now) c.loop-input.input leaf.result.0 m c.loop-input.queue c.offer.new.self c.loop-input.invariant leaf.ensures.class leaf.ensures.within (ap make c.leaf.ensures) c.offer.ensures
