use Rattle.std.proofs.Common.{take}
use Rattle.std.specs.List.{flat_map}
use Rattle.lw_io.specs.Writers.{Writes}
use Rattle.lw_lut.specs.Texts.{table_text}
use Rattle.lw_lut.proofs.writing.put_tables.Given as goal

abbrev pub invariant-loop-table : goal.invariant-loop-table
invariant-loop-table g l = Writes g.S.Sink.taken g.S.Sink.faults l.initial.out l.out (flat_map (table_text l.net) (take l.table-index l.tables))
