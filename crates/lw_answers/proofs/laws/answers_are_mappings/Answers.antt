use Rattle.lw_top.proofs.Headline.{answer-mapped}
use Rattle.lw_answers.proofs.laws.answers_are_mappings.Goals as goal

pub returns : goal.returns
returns c = λ words files text asks answer. answer-mapped words files asks text answer
