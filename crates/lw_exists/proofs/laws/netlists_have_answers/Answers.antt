use Rattle.lw_exists.proofs.MappedAnswers.{some_timing_answer, some_gate_simulation_answer, some_to_verilog_answer, some_from_verilog_answer}
use Rattle.lw_exists.proofs.laws.netlists_have_answers.Goals as goal

pub returns-clause-times : goal.returns-clause-times
returns-clause-times c = some_timing_answer

pub returns-clause-values : goal.returns-clause-values
returns-clause-values c = some_gate_simulation_answer

pub returns-clause-verilog : goal.returns-clause-verilog
returns-clause-verilog c = some_to_verilog_answer

pub returns-clause-mapped : goal.returns-clause-mapped
returns-clause-mapped c = some_from_verilog_answer
