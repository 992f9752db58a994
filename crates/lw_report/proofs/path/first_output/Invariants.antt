use Rattle.std.proofs.Common.{◌≢◌, ◌<◌, ℕ, Some, map, slice_get}
use Rattle.lw_genlib.specs.Tables.{millionths}
use Rattle.lw_report.specs.Timings.{port_arrival}
use Rattle.lw_report.proofs.path.first_output.Given as goal

abbrev pub invariant-loop-place : goal.invariant-loop-place
invariant-loop-place l = (m : ℕ) → m < l.place → slice_get (map (port_arrival (map millionths l.arrivals)) l.ports) m ≢ Some l.time.0
