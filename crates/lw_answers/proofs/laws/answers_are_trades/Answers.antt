use Rattle.lw_top.proofs.Headline.{answer-traded}
use Rattle.lw_answers.proofs.laws.answers_are_trades.Goals as goal

pub returns : goal.returns
returns c = λ words files text asks answer. answer-traded words files asks text answer
