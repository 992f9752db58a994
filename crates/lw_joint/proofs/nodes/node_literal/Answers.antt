use Rattle.std.proofs.Common.{ap₂, subst}
use Rattle.lw_joint.specs.Joint.{Computes, sum_of}
use Rattle.lw_joint.proofs.Whole.{node_off, node_on}
use Rattle.lw_joint.proofs.nodes.node_literal.Goals as goal

pub returns-then-node-clause-literal : goal.returns-then-node-clause-literal
returns-then-node-clause-literal c =
    let is = rw c.in-Some.is at c.in_ok-some.ensures.sum in
    node_on c.sum.new.sweep c.args.literals.now c.args.node.now c.in-Some.some c.if-node.true (subst (λ f. Computes c.sum.new.sweep c.args.literals.now f c.in-Some.some) (ap₂ sum_of c.as_slice-fanins.ensures c.as_slice-rows.ensures) is)

pub returns-clause-literal : goal.returns-clause-literal
returns-clause-literal c =
    let is = rw c.in-Some.is at c.in_ok-some.ensures.sum in
    node_off c.sum.new.sweep c.args.literals.now c.args.node.now c.in-Some.some c.flip.result c.if-node.false c.flip.ensures (subst (λ f. Computes c.sum.new.sweep c.args.literals.now f c.in-Some.some) (ap₂ sum_of c.as_slice-fanins.ensures c.as_slice-rows.ensures) is)
