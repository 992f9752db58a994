-- A netlist with the times at which its nets arrive, and the paths in it.
use Rattle.std.specs.Prelude.{ℕ, ◌≡◌, ◌<◌, ◌^◌, List, All, length, map}
use Rattle.lw_genlib.specs.Tables.{millionths}
use Rattle.lw_dag.specs.Ordering.{greatest}
use Rattle.lw_netlist.specs.Plain.{IsOver}
use Rattle.lw_report.specs.declared.path.Link.{Link}
use Rattle.lw_report.specs.declared.step.Step.{Step}
use Rattle.lw_report.specs.declared.timed.Timed.{Timed}
use Rattle.lw_report.specs.Made.{AreArrivalsFor}
use Rattle.lw_report.specs.Pathways.{IsLinkTo}
use Rattle.lw_report.specs.Timings.{output_arrivals, step_line, IsCriticalPath, IsPathTo}

-- when the nets arrive, in millionths
abbrev pub arrivals_in : Timed → List ℕ
arrivals_in t = map millionths t.time.now

-- the greatest arrival of an output
abbrev pub latest_in : Timed → ℕ
latest_in t = greatest (output_arrivals t.netlist.now (arrivals_in t))

-- the netlist is over the cells, and each net has a time
pub record HasTimes (t : Timed) : Type 0 where
  pub over : IsOver t.lib.now t.netlist.now
  pub one_each : length t.time.now ≡ length t.netlist.now.names

-- the netlist is over the cells, and its nets arrive then, for some starts of the inputs
pub record IsTimed (t : Timed) : Type 0 where
  pub over : IsOver t.lib.now t.netlist.now
  pub are : AreArrivalsFor t.lib.now t.netlist.now (arrivals_in t)
  pub low : All (λ time. time.0 < 2 ^ 63) t.time.now

-- the critical path to the net has these steps
abbrev pub HasPathTo : Timed → ℕ → List Step → Type 0
HasPathTo t net steps = IsPathTo t.lib.now t.netlist.now (arrivals_in t) net steps

-- this is the last step of the critical path to the net, with the net before it
abbrev pub HasLinkTo : Timed → ℕ → Link → Type 0
HasLinkTo t net link = IsLinkTo t.lib.now t.netlist.now (arrivals_in t) net link

-- the critical path has these steps
abbrev pub HasCriticalPath : Timed → List Step → Type 0
HasCriticalPath t steps = IsCriticalPath t.lib.now t.netlist.now (arrivals_in t) steps

-- the line of a step
abbrev pub line_of_step : Timed → Step → List ℕ
line_of_step t step = step_line t.lib.now t.netlist.now (arrivals_in t) step
