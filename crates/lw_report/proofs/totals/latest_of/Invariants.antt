use Rattle.std.proofs.Common.{◌≡◌, max, map, drop}
use Rattle.lw_genlib.specs.Tables.{millionths}
use Rattle.lw_dag.specs.Ordering.{greatest}
use Rattle.lw_report.specs.Timings.{port_arrival}
use Rattle.lw_report.proofs.totals.latest_of.Given as goal

abbrev pub invariant-loop-port : goal.invariant-loop-port
invariant-loop-port l =
    max l.latest (greatest (map (port_arrival (map millionths l.arrivals)) (drop l.port-index l.ports)))
    ≡ greatest (map (port_arrival (map millionths l.arrivals)) l.ports)
