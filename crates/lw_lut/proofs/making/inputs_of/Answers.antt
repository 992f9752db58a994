use Rattle.std.proofs.Common.{◌≤◌, ◌∙◌, length, ap, arith}
use Rattle.std.proofs.lemmas.List.{take_all}
use Rattle.lw_lut.proofs.TableNets.{numbers_more}
use Rattle.lw_lut.proofs.making.inputs_of.Goals as goal
use Rattle.lw_pool.specs.Numbers.{numbers}

pub loop-input-preserved : goal.loop-input-preserved
loop-input-preserved c =
    ap numbers c.in_ok-push.ensures.items ∙ numbers_more c.loop-input.classes.items c.args.graph.now.leaves c.loop-input.input c.leaf.result c.loop-input.invariant c.leaf.ensures.class

pub returns : goal.returns
returns c =
    let all : length c.args.graph.now.leaves ≤ c.loop-input.input = omega (arith, c.inputs-input-end.ensures.inputs, c.loop-input-test.false) in
    ap numbers c.from_vec.ensures ∙ (c.loop-input.invariant ∙ take_all c.loop-input.input c.args.graph.now.leaves all)
