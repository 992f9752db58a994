-- Paths to nets.
use Rattle.std.proofs.Common.{ℕ, suc, ◌+◌, ◌<◌, ◌≡◌, ◌≢◌, List, [], ◌∷◌, ◌++◌, All, Some, None, length, map, get_or, reverse, slice_get, refl, sym, ap, subst, ◌∙◌, arith, append_assoc, append-nil}
use Rattle.std.proofs.lemmas.List.{get_or-map, length-map, reverse-append}
use Rattle.std.proofs.lemmas.List.Elements.{All-append, All-push}
use Rattle.std.proofs.lemmas.Option.{slice_get-map, slice_get-get_or, slice_get_within, slice_get_read, same_Some}
use Rattle.lw_laws.proofs.LabelLaws.{latest_none}
use Rattle.lw_fixed.specs.declared.micro.Micro.{Micro}
use Rattle.lw_pool.specs.declared.id.NetId.{NetId}
use Rattle.lw_laws.specs.Covers.{latest}
use Rattle.lw_genlib.specs.Cells.{CellParts}
use Rattle.lw_genlib.specs.Tables.{millionths, cell_delays}
use Rattle.lw_netlist.specs.declared.gate.Gate.{Gate}
use Rattle.lw_netlist.specs.declared.gate.Port.{Port}
use Rattle.lw_dag.specs.Ordering.{greatest}
use Rattle.lw_netlist.specs.Netlists.{NetlistParts}
use Rattle.lw_netlist.specs.Plain.{plain_gate}
use Rattle.lw_netlist.proofs.Latest.{arrivals_read}
use Rattle.lw_report.specs.declared.step.Step.{Step}
use Rattle.lw_report.specs.Made.{AreArrivalsFor, IsStepIn}
use Rattle.lw_report.specs.Pathways.{LeadsTo}
use Rattle.lw_report.specs.Timings.{arrival_at, port_arrival, arrival_by, pin_arrivals, gate_delays, IsCriticalPin, IsPathTo, IsCriticalPath, step_line, gate_step_line, cell_step_line}
use Rattle.lw_report.specs.Timings.IsPathTo.{to_input, to_constant, by_pin}
use Rattle.lw_report.specs.Timings.IsCriticalPath.{without_outputs, to_output}
use Rattle.lw_pool.specs.Numbers.{net_number}
use Rattle.lw_genlib.proofs.Shared.{delays_at}

-- Pins.

-- what the code finds of one pin
pub arrival_by_is : (delays arrivals : List Micro) (pins : List NetId) (k : ℕ) → k < length delays → k < length pins → (get_or pins k (record { 0 = 0 })).0 < length arrivals → arrival_by (map millionths delays) (pin_arrivals (map millionths arrivals) pins) k ≡ (get_or arrivals (get_or pins k (record { 0 = 0 })).0 (record { 0 = 0 })).0 + (get_or delays k (record { 0 = 0 })).0
arrival_by_is delays arrivals pins k in_delays in_pins in_nets =
    let d : get_or (map millionths delays) k 0 ≡ (get_or delays k (record { 0 = 0 })).0 = get_or-map millionths delays k (record { 0 = 0 }) 0 in_delays in
    let t : get_or (pin_arrivals (map millionths arrivals) pins) k 0 ≡ (get_or arrivals (get_or pins k (record { 0 = 0 })).0 (record { 0 = 0 })).0 = arrivals_read arrivals pins k in_pins in_nets in
    omega (arith, d, t)

-- some pin is critical, unless there is none
pub none_critical : (delays times : List ℕ) (arrival : ℕ) → length times ≡ length delays → arrival ≡ latest delays times → ((m : ℕ) → m < length times → arrival_by delays times m ≢ arrival) → times ≡ []
none_critical delays [] arrival one is none = refl
none_critical [] (t ∷ times) arrival one is none = absurd (omega arith)
none_critical (d ∷ delays) (t ∷ times) arrival one is none =
    let first : d + t ≢ arrival = none 0 (omega arith) in
    let rest : arrival ≡ latest delays times = omega arith in
    let empty = none_critical delays times arrival (omega arith) rest (λ m below. none (suc m) (omega arith)) in
    let least : latest delays [] ≡ 0 = latest_none delays in
    let zero_arrival : arrival ≡ 0 = rest ∙ (ap (latest delays) empty ∙ least) in
    absurd (omega arith)

-- The arrival of a gate.

pub gate_arrives : (cells : List CellParts) (n : NetlistParts) (arrivals : List ℕ) (j : ℕ) (gate : Gate) → AreArrivalsFor cells n arrivals → slice_get n.gates j ≡ Some gate → slice_get arrivals (n.inputs + j) ≡ Some (latest (gate_delays cells gate) (pin_arrivals arrivals gate.pins))
gate_arrives cells n arrivals j gate (starts, are) at = are.gates j (plain_gate gate) (slice_get-map plain_gate n.gates j ∙ ap (λ o. Rattle.std.specs.Option.option_map plain_gate o) at)

pub arrival_is : (cells : List CellParts) (n : NetlistParts) (arrivals : List Micro) (j : ℕ) (gate : Gate) (cell : CellParts) (d : Micro) → AreArrivalsFor cells n (map millionths arrivals) → slice_get n.gates j ≡ Some gate → slice_get cells gate.cell.0 ≡ Some cell → n.inputs + j < length arrivals → (get_or arrivals (n.inputs + j) d).0 ≡ latest (cell_delays cell) (pin_arrivals (map millionths arrivals) gate.pins)
arrival_is cells n arrivals j gate cell d are at is below =
    let size : length (map millionths arrivals) ≡ length arrivals = length-map arrivals millionths in
    let inside : n.inputs + j < length (map millionths arrivals) = omega arith in
    let read = same_Some _ _ (sym (slice_get-get_or (map millionths arrivals) (n.inputs + j) 0 inside) ∙ gate_arrives cells n (map millionths arrivals) j gate are at) in
    sym (get_or-map millionths arrivals (n.inputs + j) d 0 below) ∙ (read ∙ ap (λ ds. latest ds (pin_arrivals (map millionths arrivals) gate.pins)) (delays_at cells gate.cell.0 cell is))

-- Steps.

-- the last step by a pin
pub link_by_pin : (cells : List CellParts) (n : NetlistParts) (arrivals : List Micro) (j k : ℕ) (gate : Gate) (cell : CellParts) (net : NetId) (arrival : ℕ) → slice_get n.gates j ≡ Some gate → slice_get cells gate.cell.0 ≡ Some cell → slice_get gate.pins k ≡ Some net → arrival ≡ arrival_at (map millionths arrivals) (n.inputs + j) → IsCriticalPin (cell_delays cell) (pin_arrivals (map millionths arrivals) gate.pins) arrival k → LeadsTo cells n (map millionths arrivals) net.0 (record { gate = j; pin = Some k } ∷ []) (n.inputs + j)
link_by_pin cells n arrivals j k gate cell net arrival at is pin same critical = λ before path.
    let delays = sym (delays_at cells gate.cell.0 cell is) in
    let times = pin_arrivals (map millionths arrivals) gate.pins in
    by_pin j k at pin (subst (λ a. IsCriticalPin (gate_delays cells gate) times a k) same (subst (λ ds. IsCriticalPin ds times arrival k) delays critical)) path

-- no step
pub leads_nowhere : (cells : List CellParts) (n : NetlistParts) (arrivals : List ℕ) (net : ℕ) → LeadsTo cells n arrivals net [] net
leads_nowhere cells n arrivals net = λ before path. subst (IsPathTo cells n arrivals net) (sym (append-nil before)) path

-- steps behind steps
pub leads_on : (cells : List CellParts) (n : NetlistParts) (arrivals : List ℕ) (from net to : ℕ) (step : Step) (back : List Step) → LeadsTo cells n arrivals from (step ∷ []) net → LeadsTo cells n arrivals net (reverse back) to → LeadsTo cells n arrivals from (reverse (back ++ step ∷ [])) to
leads_on cells n arrivals from net to step back first rest = λ before path.
    let turned : reverse (back ++ step ∷ []) ≡ step ∷ reverse back = reverse-append back (step ∷ []) in
    subst (λ l. IsPathTo cells n arrivals to (before ++ l)) (sym turned) (subst (IsPathTo cells n arrivals to) (append_assoc before (step ∷ []) (reverse back)) (rest (before ++ step ∷ []) (first before path)))

-- the path that begins with the step
pub path_from : (cells : List CellParts) (n : NetlistParts) (arrivals : List ℕ) (net to : ℕ) (step : Step) (back : List Step) → IsPathTo cells n arrivals net (step ∷ []) → LeadsTo cells n arrivals net (reverse back) to → IsPathTo cells n arrivals to (reverse (back ++ step ∷ []))
path_from cells n arrivals net to step back first rest =
    let turned : reverse (back ++ step ∷ []) ≡ step ∷ reverse back = reverse-append back (step ∷ []) in
    subst (IsPathTo cells n arrivals to) (sym turned) (rest (step ∷ []) first)

-- the path that begins at an input
pub path_from_input : (cells : List CellParts) (n : NetlistParts) (arrivals : List ℕ) (net to : ℕ) (back : List Step) → net < n.inputs → LeadsTo cells n arrivals net (reverse back) to → IsPathTo cells n arrivals to (reverse back)
path_from_input cells n arrivals net to back below rest = rest [] (to_input below)

-- each step is at a gate, by one of its pins
one_step : (n : NetlistParts) (step : Step) → IsStepIn n step → All (IsStepIn n) (step ∷ [])
one_step n step is = All-push (IsStepIn n) [] step (λ k d lt. absurd (omega arith)) is

pub steps_in : (cells : List CellParts) (n : NetlistParts) (arrivals : List ℕ) {net : ℕ} {steps : List Step} → IsPathTo cells n arrivals net steps → All (IsStepIn n) steps
steps_in cells n arrivals (to_input below) = λ k d lt. absurd (omega arith)
steps_in cells n arrivals (to_constant j {gate} at empty) = one_step n (record { gate = j; pin = None }) (record { gate = gate; at = at; pin = tt })
steps_in cells n arrivals (by_pin j k {gate} {net} {steps} at pin critical path) = All-append (IsStepIn n) steps (record { gate = j; pin = Some k } ∷ []) (steps_in cells n arrivals path) (one_step n (record { gate = j; pin = Some k }) (record { gate = gate; at = at; pin = slice_get_within gate.pins k net pin }))

pub path_steps_in : (cells : List CellParts) (n : NetlistParts) (arrivals : List ℕ) {steps : List Step} → IsCriticalPath cells n arrivals steps → All (IsStepIn n) steps
path_steps_in cells n arrivals (without_outputs none) = λ k d lt. absurd (omega arith)
path_steps_in cells n arrivals (to_output first at path) = steps_in cells n arrivals path

-- how many nets arrive
pub arrivals_count : (cells : List CellParts) (n : NetlistParts) (arrivals : List Micro) → AreArrivalsFor cells n (map millionths arrivals) → length arrivals ≡ n.inputs + length n.gates
arrivals_count cells n arrivals (starts, are) = sym (length-map arrivals millionths) ∙ (are.one_each ∙ ap (λ k. n.inputs + k) (length-map n.gates plain_gate))

-- The first output with the greatest arrival.

pub greatest_there : (times : List ℕ) → ((j : ℕ) → slice_get times j ≢ Some (greatest times)) → times ≡ []
greatest_there [] none = refl
greatest_there (t ∷ times) none = absurd (there (t ∷ times) (greatest (t ∷ times)) refl (omega arith) none)
  where
    there : (ts : List ℕ) (g : ℕ) → g ≡ greatest ts → 0 < length ts → ((j : ℕ) → slice_get ts j ≢ Some g) → ⊥
    there [] g is some none = omega arith
    there (t ∷ []) g is some none = none 0 (ap (λ n. Some n) (let same : t ≡ g = omega arith in same))
    there (t ∷ next ∷ ts) g is some none =
        let apart : t ≢ g = (λ same. none 0 (ap (λ n. Some n) same)) in
        let rest : g ≡ greatest (next ∷ ts) = omega arith in
        there (next ∷ ts) g rest (omega arith) (λ j. none (suc j))

-- The line of a step.

pub step_line_is : (cells : List CellParts) (n : NetlistParts) (arrivals : List ℕ) (step : Step) (gate : Gate) (cell : CellParts) → slice_get n.gates step.gate ≡ Some gate → slice_get cells gate.cell.0 ≡ Some cell → step_line cells n arrivals step ≡ cell_step_line (get_or n.names gate.out.0 []) (arrival_at arrivals gate.out.0) step.pin (Some cell)
step_line_is cells n arrivals step gate cell at is =
    ap (gate_step_line cells n arrivals step.pin) at ∙ ap (cell_step_line (get_or n.names gate.out.0 []) (arrival_at arrivals gate.out.0) step.pin) is

pub pin_count : (arrivals : List ℕ) (pins : List NetId) → length (pin_arrivals arrivals pins) ≡ length pins
pin_count arrivals pins = length-map (map net_number pins) (arrival_at arrivals) ∙ length-map pins net_number

-- Outputs.

-- when the output at a place arrives
pub port_read : (arrivals : List Micro) (ports : List Port) (place : ℕ) (port : Port) (d : Micro) → place < length ports → port ≡ get_or ports place port → port.net.0 < length arrivals → slice_get (map (port_arrival (map millionths arrivals)) ports) place ≡ Some (get_or arrivals port.net.0 d).0
port_read arrivals ports place port d below is inside =
    slice_get-map (port_arrival (map millionths arrivals)) ports place
    ∙ (ap (λ o. Rattle.std.specs.Option.option_map (port_arrival (map millionths arrivals)) o) (slice_get_read ports (length ports) place port refl below is)
    ∙ ap (λ t. Some t) (get_or-map millionths arrivals port.net.0 d 0 inside))
