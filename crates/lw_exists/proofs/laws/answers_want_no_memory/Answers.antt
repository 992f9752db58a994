use Rattle.lw_exists.proofs.Statuses.{no_want_of_memory}
use Rattle.lw_exists.proofs.laws.answers_want_no_memory.Goals as goal

pub returns : goal.returns
returns c = no_want_of_memory
