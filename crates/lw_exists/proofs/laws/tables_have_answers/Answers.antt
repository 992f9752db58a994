use Rattle.lw_exists.proofs.OtherAnswers.{some_tabling_answer}
use Rattle.lw_exists.proofs.laws.tables_have_answers.Goals as goal

pub returns : goal.returns
returns c = λ words files asks. some_tabling_answer words files asks.leaves asks.options asks.network asks.form
