use Rattle.lw_exists.proofs.OtherAnswers.{some_count_answer, some_simulation_answer}
use Rattle.lw_exists.proofs.laws.counts_and_values_have_answers.Goals as goal

pub returns-clause-counts : goal.returns-clause-counts
returns-clause-counts c = some_count_answer

pub returns-clause-values : goal.returns-clause-values
returns-clause-values c = some_simulation_answer
