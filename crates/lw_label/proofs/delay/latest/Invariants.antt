use Rattle.std.proofs.Common.{◌≡◌, min, map, take}
use Rattle.lw_laws.specs.Covers.{latest}
use Rattle.lw_genlib.specs.Tables.{millionths}
use Rattle.lw_label.specs.Delays.{most_time}
use Rattle.lw_label.proofs.delay.latest.Given as goal

abbrev pub invariant-loop-k : goal.invariant-loop-k
invariant-loop-k l = min l.latest most_time ≡ min most_time (latest (take l.k (map millionths l.delays)) l.pins)
