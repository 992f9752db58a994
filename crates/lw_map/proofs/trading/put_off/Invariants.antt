use Rattle.std.proofs.Common.{◌≡◌, map, take}
use Rattle.lw_map.specs.Trading.{put_off}
use Rattle.lw_map.proofs.trading.put_off.Given as goal

abbrev pub invariant-loop-time : goal.invariant-loop-time
invariant-loop-time l = l.later.items ≡ map (put_off l.deadline) (take l.time-index l.times)
