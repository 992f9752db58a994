use Rattle.std.proofs.Common.{take}
use Rattle.lw_equal.specs.Cases.{AreEnds}
use Rattle.lw_equal.proofs.small.ends_of.Given as goal

abbrev pub invariant-loop-pair : goal.invariant-loop-pair
invariant-loop-pair l = AreEnds l.case (take l.pair-index l.pairs) l.ends.items
