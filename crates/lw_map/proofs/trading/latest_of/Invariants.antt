use Rattle.std.proofs.Common.{◌≡◌, take}
use Rattle.lw_map.specs.Trading.{latest_of, micros}
use Rattle.lw_map.proofs.trading.latest_of.Given as goal

abbrev pub invariant-loop-time : goal.invariant-loop-time
invariant-loop-time l = l.latest ≡ latest_of l.fn.deadline.0 (micros (take l.time-index l.times))
