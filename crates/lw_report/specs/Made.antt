-- What a timing or a simulator was made for.
use Rattle.std.specs.Prelude.{ℕ, ◌≡◌, ◌≤◌, ◌<◌, ◌^◌, List, None, Some, IfSome, All, length, map, slice_get}
use Rattle.lw_fixed.specs.declared.micro.Micro.{Micro}
use Rattle.lw_laws.specs.Netlists.{AreArrivals}
use Rattle.lw_genlib.specs.Cells.{CellParts, IsSmall}
use Rattle.lw_genlib.specs.Tables.{millionths, timing_of}
use Rattle.lw_netlist.specs.declared.gate.Gate.{Gate}
use Rattle.lw_netlist.specs.Netlists.{NetlistParts, most_gates}
use Rattle.lw_netlist.specs.Plain.{plain, IsOver}
use Rattle.lw_report.specs.declared.sim.Sim.{Sim}
use Rattle.lw_report.specs.declared.step.Step.{Step}
use Rattle.lw_report.specs.declared.vectors.Vectors.{Vectors}
use Rattle.lw_report.specs.Standing.{inputs_of, stop_of}
use Rattle.lw_report.specs.Timings.{TimingParts, IsTimingOf}

-- the nets arrive then, for some starts of the inputs
abbrev pub AreArrivalsFor : List CellParts → NetlistParts → List ℕ → Type 0
AreArrivalsFor cells n arrivals = (starts : List Micro) × AreArrivals (timing_of cells starts) (plain n) arrivals

-- The netlist is over the cells and has few gates, and each input has a small start.
pub record CanBeTimed (cells : List CellParts) (n : NetlistParts) (starts : List Micro) : Type 0 where
  pub over : IsOver cells n
  pub one_start : length starts ≡ n.inputs
  pub small : All IsSmall starts
  pub few : length n.gates ≤ most_gates

-- a time below 2 ^ 63 for each net, which arrives then for these starts of the inputs
pub record ArriveAt (cells : List CellParts) (n : NetlistParts) (starts times : List Micro) : Type 0 where
  pub are : AreArrivals (timing_of cells starts) (plain n) (map millionths times)
  pub low : All (λ time. time.0 < 2 ^ 63) times
  pub len : length times ≡ length n.names

-- the timing is that of the netlist, for some starts of its inputs
abbrev pub IsTimingFor : List CellParts → NetlistParts → TimingParts → Type 0
IsTimingFor cells n t = (starts : List Micro) × IsTimingOf cells n starts t

-- the step is at a gate of the netlist, and by one of its pins if by any
pub record IsStepIn (n : NetlistParts) (step : Step) : Type 0 where
  pub gate : Gate
  pub at : slice_get n.gates step.gate ≡ Some gate
  pub pin : IfSome step.pin (λ k. k < length gate.pins)

-- how many nets a simulator has places for
abbrev pub places_of : Sim → ℕ
places_of sim = length sim.nets.items

-- A simulator with a place for each net, and vectors with a value for each input, of which no line was refused.
pub record CanSimulate (sim : Sim) (vectors : Vectors) (nets count : ℕ) : Type 0 where
  pub made : places_of sim ≡ nets
  pub inputs : inputs_of vectors ≡ count
  pub good : stop_of vectors ≡ None
