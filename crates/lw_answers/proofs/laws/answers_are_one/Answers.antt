use Rattle.lw_answers.proofs.One.{answer_one, answers_alike}
use Rattle.lw_answers.proofs.laws.answers_are_one.Goals as goal

pub returns-clause-one : goal.returns-clause-one
returns-clause-one c = λ words files a b other none. answer_one words other none files a b

pub returns-clause-refusal : goal.returns-clause-refusal
returns-clause-refusal c = answers_alike
