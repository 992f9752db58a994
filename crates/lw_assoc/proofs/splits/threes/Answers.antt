use Rattle.lw_assoc.proofs.Counts.{power_is}
use Rattle.lw_assoc.proofs.splits.threes.Goals as goal

pub returns : goal.returns
returns c = power_is c.args.count c.requires
