use Rattle.std.proofs.Common.{◌<◌, length, arith}
use Rattle.lw_backtrace.proofs.Inputs.{inputs_next}
use Rattle.lw_backtrace.proofs.walk.inputs_of.Goals as goal

pub loop-input-preserved : goal.loop-input-preserved
loop-input-preserved c =
    let inside : c.leaf.result.0 < length c.loop-input.inputs.items = omega (arith, c.leaf.ensures.within, c.loop-input.invariant.one_each) in
    inputs_next c.args.graph.now c.loop-input.input c.leaf.result.0 c.loop-input.inputs.items c.leaf.ensures.class inside c.loop-input.invariant
