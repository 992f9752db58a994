use Rattle.std.proofs.Common.{◌≡◌, ◌≤◌, ◌<◌, ◌+◌, ◌∙◌, ap, length, arith}
use Rattle.std.specs.Prelude.{vec_capacity}
use Rattle.std.proofs.lemmas.List.{length_push}
use Rattle.lw_pattern.specs.Nodes.{node_count}
use Rattle.lw_pattern.proofs.Placement.{length_steps, starts, next_from}
use Rattle.lw_pattern.proofs.placing.nodes.Goals as goal

pub loop-place-init : goal.loop-place-init
loop-place-init c =
    let size : length c.steps-steps.result.now ≡ node_count c.args.tree.now = ap length c.steps-steps.ensures ∙ length_steps c.args.tree.now in
    let held : length c.steps-steps.result.now ≤ vec_capacity c.in_ok-nodes.nodes = c.in_ok-nodes.ensures.capacity in
    record {
      placing = starts c.args.tree.now _ _ c.in_ok-nodes.ensures.items c.new-roots.ensures.items;
      long = ap length c.in_ok-nodes.ensures.items;
      room = omega arith;
    }

pub overflow_cast-place : goal.overflow_cast-place
overflow_cast-place c =
    let size : length c.steps-steps.result.now ≡ node_count c.args.tree.now = ap length c.steps-steps.ensures ∙ length_steps c.args.tree.now in
    let small : c.loop-place.place < 256 = omega arith in
    omega arith

pub loop-place-preserved : goal.loop-place-preserved
loop-place-preserved c = record {
  placing =
      next_from c.args.tree.now c.steps-steps.result.now c.steps-steps.ensures c.loop-place.place c.loop-place.nodes.items c.loop-place.roots.items c.loop-place.invariant.placing c.loop-place-test.true
      c.node_by.result c.node_by.ensures.node c.push_reserved.new.self.items c.push_reserved.ensures.items c.node_by.new.roots.items c.push.new.self.items c.node_by.ensures.left c.in_ok-push.ensures.items;
  long =
      let old : length c.loop-place.nodes.items ≡ c.loop-place.place = c.loop-place.invariant.long in
      let more : length c.push_reserved.new.self.items ≡ length c.loop-place.nodes.items + 1 = ap length c.push_reserved.ensures.items ∙ length_push c.loop-place.nodes.items c.node_by.result in
      omega arith;
  room =
      let old : node_count c.args.tree.now ≤ vec_capacity c.loop-place.nodes = c.loop-place.invariant.room in
      let same : vec_capacity c.push_reserved.new.self ≡ vec_capacity c.loop-place.nodes = c.push_reserved.ensures.capacity in
      omega arith;
}
