-- The timing report of a netlist: when its outputs arrive, its area, and its critical path.
use Rattle.std.specs.Prelude.{ℕ, ◌+◌, ◌<◌, ◌≡◌, ◌≢◌, List, [], ◌∷◌, ◌++◌, Option, Some, None, length, map, sum_by}
use Rattle.std.specs.Prelude.{codes, slice_get, slice_index_or}
use Rattle.std.specs.List.{flat_map}
use Rattle.lw_fixed.specs.declared.micro.Micro.{Micro}
use Rattle.lw_fixed.specs.Printed.{decimal_text}
use Rattle.lw_pool.specs.declared.id.NetId.{NetId}
use Rattle.lw_laws.specs.Covers.{delays_of}
use Rattle.lw_laws.specs.Netlists.{AreArrivals}
use Rattle.lw_genlib.specs.Cells.{CellParts}
use Rattle.lw_genlib.specs.Tables.{timing_of, delays_of_cells}
use Rattle.lw_netlist.specs.declared.gate.Gate.{Gate}
use Rattle.lw_netlist.specs.declared.gate.Port.{Port}
use Rattle.lw_dag.specs.Ordering.{greatest}
use Rattle.lw_netlist.specs.Netlists.{NetlistParts}
use Rattle.lw_netlist.specs.Plain.{plain}
use Rattle.lw_report.specs.declared.step.Step.{Step}
use Rattle.lw_words.specs.Texts.{line}
use Rattle.lw_pool.specs.Numbers.{net_number}

-- Arrivals and area.

-- when a net arrives
abbrev pub arrival_at : List ℕ → ℕ → ℕ
arrival_at arrivals net = slice_index_or arrivals net 0

abbrev pub port_arrival : List ℕ → Port → ℕ
port_arrival arrivals port = arrival_at arrivals port.net.0

-- when the outputs arrive, in order
abbrev pub output_arrivals : NetlistParts → List ℕ → List ℕ
output_arrivals n arrivals = map (port_arrival arrivals) n.outputs

abbrev pub area_in : Option CellParts → ℕ
area_in None = 0
area_in (Some cell) = cell.area.0

abbrev pub gate_area : List CellParts → Gate → ℕ
gate_area cells gate = area_in (slice_get cells gate.cell.0)

-- the area of all gates
abbrev pub area_of : List CellParts → List Gate → ℕ
area_of cells gates = sum_by (gate_area cells) gates

-- The critical path.

-- when the nets of a gate's pins arrive
abbrev pub pin_arrivals : List ℕ → List NetId → List ℕ
pin_arrivals arrivals pins = map (arrival_at arrivals) (map net_number pins)

abbrev pub gate_delays : List CellParts → Gate → List ℕ
gate_delays cells gate = delays_of (delays_of_cells cells) gate.cell.0

-- when a gate's net would arrive by the pin with this number alone
abbrev pub arrival_by : List ℕ → List ℕ → ℕ → ℕ
arrival_by delays times k = slice_index_or delays k 0 + slice_index_or times k 0

-- The pin is the first whose arrival and delay make up the arrival of the gate.
pub record IsCriticalPin (delays times : List ℕ) (arrival k : ℕ) : Type 0 where
  pub within : k < length times
  pub makes : arrival_by delays times k ≡ arrival
  pub first : (j : ℕ) → j < k → arrival_by delays times j ≢ arrival

-- The steps of the critical path from its start to a net: none to an input, and else behind those to the first critical
-- pin of the net's gate the gate itself.
pub data IsPathTo (cells : List CellParts) (n : NetlistParts) (arrivals : List ℕ) : ℕ → List Step → Type 0 where
  to_input : {net : ℕ} → net < n.inputs → IsPathTo cells n arrivals net []
  to_constant : (j : ℕ) {gate : Gate} → slice_get n.gates j ≡ Some gate → gate.pins ≡ []
      → IsPathTo cells n arrivals (n.inputs + j) (record { gate = j; pin = None } ∷ [])
  by_pin : (j k : ℕ) {gate : Gate} {net : NetId} {steps : List Step} → slice_get n.gates j ≡ Some gate
      → slice_get gate.pins k ≡ Some net → IsCriticalPin (gate_delays cells gate) (pin_arrivals arrivals gate.pins)
      (arrival_at arrivals (n.inputs + j)) k → IsPathTo cells n arrivals net.0 steps
      → IsPathTo cells n arrivals (n.inputs + j) (steps ++ record { gate = j; pin = Some k } ∷ [])

-- The place is the first of this time among some times.
pub record IsFirstAt (times : List ℕ) (time place : ℕ) : Type 0 where
  pub is : slice_get times place ≡ Some time
  pub first : (j : ℕ) → j < place → slice_get times j ≢ Some time

-- The critical path goes to the first output with the greatest arrival. Without outputs it has no steps.
pub data IsCriticalPath (cells : List CellParts) (n : NetlistParts) (arrivals : List ℕ) : List Step → Type 0 where
  without_outputs : n.outputs ≡ [] → IsCriticalPath cells n arrivals []
  to_output : {place : ℕ} {port : Port} {steps : List Step}
      → IsFirstAt (output_arrivals n arrivals) (greatest (output_arrivals n arrivals)) place
      → slice_get n.outputs place ≡ Some port → IsPathTo cells n arrivals port.net.0 steps
      → IsCriticalPath cells n arrivals steps

-- The report.

pub record TimingParts : Type 0 where
  -- when each net arrives
  pub arrivals : List ℕ
  -- the greatest arrival of an output
  pub latest : ℕ
  pub area : ℕ
  -- the critical path, from its start to its end
  pub path : List Step

-- the timing of a netlist whose inputs start then
pub record IsTimingOf (cells : List CellParts) (n : NetlistParts) (starts : List Micro) (t : TimingParts) : Type 0 where
  pub arrivals : AreArrivals (timing_of cells starts) (plain n) t.arrivals
  pub latest : t.latest ≡ greatest (output_arrivals n t.arrivals)
  pub area : t.area ≡ area_of cells n.gates
  pub path : IsCriticalPath cells n t.arrivals t.path

-- when an output arrives
abbrev pub arrival_line : List ℕ → Port → List ℕ
arrival_line arrivals port = line (codes "arrival") (port.name ∷ decimal_text (port_arrival arrivals port) ∷ [])

-- the name of a pin, and `-` where there is none
abbrev pub pin_name : CellParts → Option ℕ → List ℕ
pin_name cell None = codes "-"
pin_name cell (Some k) = slice_index_or cell.pins k []

-- the net and the cell of a gate, the pin, and when the gate's net arrives
abbrev pub cell_step_line : List ℕ → ℕ → Option ℕ → Option CellParts → List ℕ
cell_step_line net arrival pin None = []
cell_step_line net arrival pin (Some cell) =
    line (codes "step") (net ∷ cell.name ∷ pin_name cell pin ∷ decimal_text arrival ∷ [])

abbrev pub gate_step_line : List CellParts → NetlistParts → List ℕ → Option ℕ → Option Gate → List ℕ
gate_step_line cells n arrivals pin None = []
gate_step_line cells n arrivals pin (Some gate) =
    cell_step_line (slice_index_or n.names gate.out.0 []) (arrival_at arrivals gate.out.0) pin
    (slice_get cells gate.cell.0)

abbrev pub step_line : List CellParts → NetlistParts → List ℕ → Step → List ℕ
step_line cells n arrivals step = gate_step_line cells n arrivals step.pin (slice_get n.gates step.gate)

-- the arrival of each output, the greatest of them, and the area
abbrev pub summary_text : List Port → List ℕ → ℕ → ℕ → List ℕ
summary_text outputs arrivals latest area =
    flat_map (arrival_line arrivals) outputs
    ++ line (codes "max") (decimal_text latest ∷ [])
    ++ line (codes "area") (decimal_text area ∷ [])

-- The text: the arrivals and the area, and then the steps of the critical path.
abbrev pub timing_text : List CellParts → NetlistParts → TimingParts → List ℕ
timing_text cells n t =
    summary_text n.outputs t.arrivals t.latest t.area ++ flat_map (step_line cells n t.arrivals) t.path

-- a timing report of a netlist whose inputs start then
pub record IsTimingText (cells : List CellParts) (n : NetlistParts) (starts : List Micro) (text : List ℕ) : Type 0 where
  pub timing : TimingParts
  pub is : IsTimingOf cells n starts timing
  pub says : text ≡ timing_text cells n timing
