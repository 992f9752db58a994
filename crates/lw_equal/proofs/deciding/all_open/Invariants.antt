use Rattle.std.proofs.Common.{◌≡◌, map, take}
use Rattle.lw_equal.specs.Cases.{point_of}
use Rattle.lw_equal.proofs.deciding.all_open.Given as goal

abbrev pub invariant-loop-pair : goal.invariant-loop-pair
invariant-loop-pair l = l.undecided ≡ map point_of (take l.pair-index l.pairs)
