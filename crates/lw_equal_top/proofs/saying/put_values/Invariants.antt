use Rattle.std.proofs.Common.{take}
use Rattle.lw_io.specs.Writers.{Writes}
use Rattle.lw_equal_top.specs.Texts.{values_text}
use Rattle.lw_equal_top.proofs.saying.put_values.Given as goal

abbrev pub invariant-loop-k : goal.invariant-loop-k
invariant-loop-k g l = Writes g.S.Sink.taken g.S.Sink.faults l.initial.out l.out (values_text (take l.k l.names) (take l.k l.values))
