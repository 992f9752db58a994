use Rattle.std.proofs.Common.{length}
use Rattle.lw_equal.specs.Sides.{inputs_of}
use Rattle.lw_equal.proofs.Laying.{begins_later}
use Rattle.lw_equal.proofs.comparing.lay_more.Goals as goal

pub lay-requires-clause-inputs : goal.lay-requires-clause-inputs
lay-requires-clause-inputs c = begins_later c.args.sweep.now c.sides.sweep (length (inputs_of c.args.one.now.side.now.logic)) c.sides.invariant c.requires.inputs
