use Rattle.std.proofs.Common.{◌≢◌, ◌<◌, ℕ, map}
use Rattle.lw_genlib.specs.Tables.{millionths, cell_delays}
use Rattle.lw_report.specs.Timings.{arrival_by, pin_arrivals}
use Rattle.lw_report.proofs.path.critical_pin.Given as goal

abbrev pub invariant-loop-k : goal.invariant-loop-k
invariant-loop-k l =
    (m : ℕ) → m < l.k → arrival_by (cell_delays l.cell) (pin_arrivals (map millionths l.arrivals) l.pins) m ≢ l.arrival.0
