use Rattle.lw_exists.proofs.OtherAnswers.{some_drawing_answer}
use Rattle.lw_exists.proofs.laws.sizes_have_answers.Goals as goal

pub returns : goal.returns
returns c = some_drawing_answer
