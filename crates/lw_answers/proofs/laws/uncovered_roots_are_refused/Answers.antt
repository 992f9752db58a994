use Rattle.lw_answers.proofs.Uncovered.{no_cover_exactly}
use Rattle.lw_answers.proofs.laws.uncovered_roots_are_refused.Goals as goal

pub returns : goal.returns
returns c = λ words files options certified cells model a read within answer. no_cover_exactly words files options certified cells model read within a answer
