use Rattle.std.proofs.Common.{take}
use Rattle.lw_io.specs.Writers.{Writes}
use Rattle.lw_lut.specs.Texts.{wires}
use Rattle.lw_lut.proofs.writing.put_wires.Given as goal

abbrev pub invariant-loop-k : goal.invariant-loop-k
invariant-loop-k g l = Writes g.S.Sink.taken g.S.Sink.faults l.initial.out l.out (wires l.net (take l.k l.outputs) (take l.k l.roots))
