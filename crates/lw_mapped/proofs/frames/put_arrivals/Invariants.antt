use Rattle.std.proofs.Common.{take}
use Rattle.lw_io.specs.Writers.{Writes}
use Rattle.lw_mapped.specs.Texts.{arrival_lines}
use Rattle.lw_mapped.proofs.frames.put_arrivals.Given as goal

abbrev pub invariant-loop-k : goal.invariant-loop-k
invariant-loop-k g l = Writes g.S.Sink.taken g.S.Sink.faults l.initial.out l.out (arrival_lines l.names (take l.k l.starts))
