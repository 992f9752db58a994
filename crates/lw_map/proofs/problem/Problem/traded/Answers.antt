use Rattle.lw_map.specs.Trading.{micros}
use Rattle.lw_map.proofs.problem.Problem.traded.Goals as goal

pub at_any_time-requires-clause-covered : goal.at_any_time-requires-clause-covered
at_any_time-requires-clause-covered c = (micros c.in_ok-times.times.items, c.in_ok-times.ensures.least.earliest)
