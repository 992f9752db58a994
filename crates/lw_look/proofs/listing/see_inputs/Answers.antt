use Rattle.std.proofs.Common.{◌≤◌, ◌<◌, length, arith}
use Rattle.lw_look.proofs.RightLists.{input_more, inputs_seen}
use Rattle.lw_look.proofs.listing.see_inputs.Goals as goal

pub loop-input-preserved : goal.loop-input-preserved
loop-input-preserved c =
    let inside : c.leaf.result.0 < length c.loop-input.seen = omega (arith, c.leaf.ensures.within, c.loop-input.invariant.one_each) in
    input_more c.args.graph.now c.loop-input.input c.leaf.result.0 c.loop-input.seen c.leaf.ensures.class inside c.loop-input.invariant

pub returns : goal.returns
returns c =
    let all : length c.args.graph.now.leaves ≤ c.loop-input.input = omega (arith, c.inputs-input-end.ensures.inputs, c.loop-input-test.false) in
    inputs_seen c.args.graph.now c.loop-input.input c.loop-input.seen all c.loop-input.invariant
