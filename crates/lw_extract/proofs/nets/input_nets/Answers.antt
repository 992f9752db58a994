use Rattle.std.proofs.Common.{◌≤◌, length, arith}
use Rattle.lw_extract.proofs.ClassNets.{inputs_end}
use Rattle.lw_extract.proofs.nets.input_nets.Goals as goal

pub returns : goal.returns
returns c =
    let all : length c.args.graph.now.leaves ≤ c.loop-input.input = omega (arith, c.inputs-input-end.ensures.inputs, c.loop-input-test.false) in
    inputs_end c.args.graph.now c.loop-input.input c.loop-input.nets.items all c.loop-input.invariant
