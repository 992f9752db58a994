use Rattle.std.proofs.Common.{take}
use Rattle.std.specs.List.{flat_map}
use Rattle.lw_io.specs.Writers.{Writes}
use Rattle.lw_shown.specs.Shown.{shown_byte}
use Rattle.lw_shown.proofs.bytes.put_shown.Given as goal

abbrev pub invariant-loop-byte : goal.invariant-loop-byte
invariant-loop-byte g l = Writes g.S.Sink.taken g.S.Sink.faults l.initial.out l.out (flat_map shown_byte (take l.byte-index l.bytes))
