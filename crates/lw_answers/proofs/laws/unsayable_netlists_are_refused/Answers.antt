use Rattle.lw_answers.proofs.Unsayable.{no_verilog_exactly}
use Rattle.lw_answers.proofs.laws.unsayable_netlists_are_refused.Goals as goal

pub returns : goal.returns
returns c = λ words files a asks answer. no_verilog_exactly words files asks a answer
