use Rattle.lw_top.specs.Words.{mapping}
use Rattle.lw_top.proofs.MapWords.{map_asked}
use Rattle.lw_exists.proofs.SomeAnswer.{some_answer}
use Rattle.lw_exists.proofs.Statuses.{no_want_of_memory}
use Rattle.lw_exists.proofs.laws.mappings_have_answers.Goals as goal

pub returns-clause-answer : goal.returns-clause-answer
returns-clause-answer c = λ words files asks. some_answer words files asks.options asks.certified asks.library asks.network (map_asked words (mapping asks.options asks.certified asks.library asks.network) asks.form)

pub returns-clause-status : goal.returns-clause-status
returns-clause-status c = λ words files a asks answer. no_want_of_memory words files a answer
