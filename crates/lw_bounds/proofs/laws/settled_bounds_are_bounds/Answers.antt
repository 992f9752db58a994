use Rattle.lw_bounds.proofs.Settled.{settled_bounds_are_bounds}
use Rattle.lw_bounds.proofs.laws.settled_bounds_are_bounds.Goals as goal

pub returns : goal.returns
returns c = settled_bounds_are_bounds
