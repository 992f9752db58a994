use Rattle.lw_answers.proofs.ComesBack.{comes_back}
use Rattle.lw_answers.proofs.laws.verilog_reads_back.Goals as goal

pub returns : goal.returns
returns c = λ words backs files others text. comes_back words backs files others text
