use Rattle.std.proofs.Common.{take}
use Rattle.std.specs.Prelude.{All}
use Rattle.lw_words.specs.Gathering.{IsInk, IsPlainByte}
use Rattle.lw_words.proofs.reading.ink_len.Given as goal

abbrev pub invariant-loop-i : goal.invariant-loop-i
invariant-loop-i l = All IsInk (take l.i l.bytes) × All IsPlainByte (take l.i l.bytes)
