use Rattle.std.proofs.Common.{◌≡◌, ◌++◌, take}
use Rattle.lw_reduce.proofs.sorted_pairs.append.Given as goal

abbrev pub invariant-loop-pair : goal.invariant-loop-pair
invariant-loop-pair l = l.pool.items ≡ l.fn.pool.items ++ take l.pair-index l.row
