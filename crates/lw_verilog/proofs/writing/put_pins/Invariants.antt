use Rattle.std.proofs.Common.{take}
use Rattle.lw_io.specs.Writers.{Writes}
use Rattle.lw_verilog.specs.Texts.{pins_text}
use Rattle.lw_verilog.proofs.writing.put_pins.Given as goal

abbrev pub invariant-loop-k : goal.invariant-loop-k
invariant-loop-k g l = Writes g.S.Sink.taken g.S.Sink.faults l.initial.out l.out (pins_text l.names (take l.k l.pins) (take l.k l.nets))
