use Rattle.lw_lut_text.proofs.TablesRead.{tables_are_read}
use Rattle.lw_lut_text.proofs.laws.written_tables_are_read.Goals as goal

pub returns : goal.returns
returns c = tables_are_read
