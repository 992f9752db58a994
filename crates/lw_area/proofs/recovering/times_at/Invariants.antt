use Rattle.std.proofs.Common.{◌≡◌, map, take}
use Rattle.lw_area.specs.Cases.{time_at}
use Rattle.lw_area.proofs.recovering.times_at.Given as goal

abbrev pub invariant-loop-port : goal.invariant-loop-port
invariant-loop-port l = l.times.items ≡ map (time_at l.arrivals) (take l.port-index l.outputs)
