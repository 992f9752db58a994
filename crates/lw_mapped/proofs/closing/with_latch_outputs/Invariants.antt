use Rattle.std.proofs.Common.{◌≡◌, ◌++◌, map, take}
use Rattle.lw_frame.specs.Frames.{output_of}
use Rattle.lw_mapped.proofs.closing.with_latch_outputs.Given as goal

abbrev pub invariant-loop-latch : goal.invariant-loop-latch
invariant-loop-latch l = l.names ≡ l.initial.names ++ map output_of (take l.latch-index l.latches)
