use Rattle.std.proofs.Common.{◌≡◌, take}
use Rattle.std.specs.List.{flat_map}
use Rattle.std.specs.Str.{bytes_eq}
use Rattle.indexmap.specs.IndexSet.{insert_all}
use Rattle.lw_frame.specs.Frames.{read_by}
use Rattle.lw_frame.proofs.roots.add_roots.Given as goal

abbrev pub invariant-loop-latch : goal.invariant-loop-latch
invariant-loop-latch l = l.names.keys ≡ insert_all bytes_eq l.initial.names.keys (flat_map read_by (take l.latch-index l.latches))
