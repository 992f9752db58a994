use Rattle.std.proofs.Common.{◌+◌, ◌∙◌, ◌≡◌, ap, arith, length, map, refl, subst, sym}
use Rattle.std.proofs.lemmas.List.{length_push}
use Rattle.std.proofs.lemmas.Option.{slice_get_read}
use Rattle.lw_laws.specs.Networks.{node_value}
use Rattle.lw_net.specs.Plain.{plain, plain_node}
use Rattle.lw_sweep.proofs.Growing.{extended_both}
use Rattle.lw_joint.specs.Joint.{Computes, HaveNetValues}
use Rattle.lw_joint.proofs.Whole.{node_has_value}
use Rattle.lw_joint.proofs.nets.net_literals.Goals as goal

pub nodes-preserved : goal.nodes-preserved
nodes-preserved c =
    let lits = c.nodes.literals.items in
    let nodes = c.nodes-node-items.result.now in
    let i = c.nodes.node-index in
    let item = c.node-item.result in
    let is = rw c.in-Some.is at c.in_ok-literal.ensures.literal in
    let at = slice_get_read nodes _ i item refl c.nodes-test.true c.node-item.is in
    let size = c.nodes.invariant.size in
    let more = length_push lits c.in-Some.literal in
    let long : length c.push.new.self.items ≡ c.args.net.now.inputs + (i + 1) = ap length c.in_ok-push.ensures.items ∙ omega arith in
    record {
      grown = extended_both c.args.sweep.now c.nodes.sweep c.node_literal.new.sweep c.nodes.invariant.grown c.node_literal.ensures.grows;
      size = long;
      have = subst (HaveNetValues c.node_literal.new.sweep (plain c.args.net.now) c.args.inputs.now) (sym c.in_ok-push.ensures.items)
          (node_has_value c.nodes.sweep c.node_literal.new.sweep (plain c.args.net.now) nodes c.args.inputs.now lits i item c.in-Some.literal c.node_literal.ensures.grows (sym (ap (map plain_node) c.nodes-node-items.ensures.nodes)) size at c.nodes.invariant.have
          (subst (λ ls. Computes c.node_literal.new.sweep ls (λ values. node_value values (plain_node item)) c.in-Some.literal) c.deref.ensures.value is));
    }
