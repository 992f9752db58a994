use Rattle.lw_exists.proofs.MappedAnswers.{some_check_answer}
use Rattle.lw_exists.proofs.laws.checks_have_answers.Goals as goal

pub returns : goal.returns
returns c = λ words files asks. some_check_answer words files asks.options asks.library asks.network asks.mapped asks.form
