use Rattle.std.proofs.Common.{length}
use Rattle.lw_look.proofs.depths.+deepest.Given as goal

abbrev pub decreases-deepest : goal.decreases-deepest
decreases-deepest l = length l.pins.now
