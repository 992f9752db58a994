use Rattle.std.proofs.Common.{arith}
use Rattle.std.proofs.lemmas.Option.{slice_get_within}
use Rattle.lw_aig.specs.declared.gate.Gate.TheVariants.{Input}
use Rattle.lw_equal.proofs.Tried.{first_more}
use Rattle.lw_equal.proofs.trying.has_few_inputs.Goals as goal

pub loop-node-init : goal.loop-node-init
loop-node-init c n lt at = absurd (omega (arith, lt))

pub loop-node-preserved : goal.loop-node-preserved
loop-node-preserved c = first_more c.args.gates.now c.args.inputs c.loop-node.node c.loop-node.invariant (c.is_first.ensures c.if-not-is_first.false)

pub returns : goal.returns
returns c same n at = c.loop-node.invariant n (omega (arith, slice_get_within c.args.gates.now n Input at, c.loop-node-test.false)) at
