use Rattle.lw_area.proofs.Uncovered.{no_cover_exactly}
use Rattle.lw_area.proofs.laws.uncovered_roots_are_refused.Goals as goal

pub returns : goal.returns
returns c = λ task files read a within answer not_8. no_cover_exactly task files read within a answer not_8
