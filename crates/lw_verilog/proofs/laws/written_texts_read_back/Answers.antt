use Rattle.lw_verilog.proofs.ReadBack.{reads_back}
use Rattle.lw_verilog.proofs.laws.written_texts_read_back.Goals as goal

pub returns : goal.returns
returns c = reads_back
