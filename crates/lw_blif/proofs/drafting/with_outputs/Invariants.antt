use Rattle.std.proofs.Common.{◌≡◌, ◌++◌, take, map}
use Rattle.lw_frame.specs.Frames.{output_of}
use Rattle.lw_blif.proofs.drafting.with_outputs.Given as goal

abbrev pub invariant-loop-latch : goal.invariant-loop-latch
invariant-loop-latch l = l.names ≡ l.initial.names ++ map output_of (take l.latch-index l.latches)
