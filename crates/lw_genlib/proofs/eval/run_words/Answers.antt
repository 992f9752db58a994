use Rattle.std.proofs.Common.{arith, refl}
use Rattle.lw_genlib.specs.Runs.{word_by}
use Rattle.lw_genlib.proofs.Running.{starts, next_step, next_is, whole_run}
use Rattle.lw_genlib.proofs.eval.run_words.Goals as goal

pub step-size-requires : goal.step-size-requires
step-size-requires c =
    let next = next_step _ _ c.args.ops.now _ _ _ c.loop-op.invariant (omega arith) in
    record { takes = next.0; held = c.loop-op.invariant.held; room = next.1; pin = next.2 }

pub loop-op-init : goal.loop-op-init
loop-op-init c = starts (word_by c.args.pins.now) _ c.args.ops.now _ refl c.requires

pub loop-op-preserved : goal.loop-op-preserved
loop-op-preserved c = next_is (word_by c.args.pins.now) _ c.args.ops.now _ _ _ c.loop-op.invariant (omega arith) _ _ c.step-size.ensures.size c.step-size.ensures.stack c.step-size.array_long

pub returns : goal.returns
returns c = whole_run (word_by c.args.pins.now) _ c.args.ops.now _ _ _ c.loop-op.invariant (omega arith)
