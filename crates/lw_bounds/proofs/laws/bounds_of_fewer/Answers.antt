use Rattle.lw_bounds.proofs.Settled.{bounds_of_fewer}
use Rattle.lw_bounds.proofs.laws.bounds_of_fewer.Goals as goal

pub returns : goal.returns
returns c = bounds_of_fewer
