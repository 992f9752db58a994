-- What the statements of a text say: its model, its ports, its gates and its wires.
use Rattle.std.specs.Prelude.{ℕ, ◌≡◌, Bool, true, position, slice_get, List, [], ◌∷◌, map, drop, Option, Some, None}
use Rattle.std.specs.Prelude.{if◌then◌else◌, codes}
use Rattle.std.specs.List.{flat_map, list_any}
use Rattle.std.specs.Str.{bytes_eq}
use Rattle.lw_genlib.specs.Cells.{CellParts, names_of}
use Rattle.lw_named_netlist.specs.declared.draft.DraftGate.{DraftGate}
use Rattle.lw_named_netlist.specs.declared.draft.GateDraft.{GateDraft}
use Rattle.lw_named_netlist.specs.declared.draft.Wire.{Wire}
use Rattle.lw_verilog.specs.declared.place.Task.{Task}
use Rattle.lw_verilog.specs.declared.place.Task.TheVariants as task

-- what the token at the end of a statement does, and the names of the statement in order
pub record Statement : Type 0 where
  pub task : Task
  pub names : List (List ℕ)

abbrev pub first_name : List (List ℕ) → List ℕ
first_name [] = []
first_name (name ∷ names) = name

-- the model's name, which stands first in the header of each module
abbrev pub model_of : List (List ℕ) → List ℕ
model_of [] = codes "unnamed"
model_of (name ∷ names) = name

-- a pin or an output, and its net
pub record Tie : Type 0 where
  pub formal : List ℕ
  pub net : List ℕ

-- names two by two
abbrev pub pairs : List (List ℕ) → List Tie
pairs [] = []
pairs (formal ∷ []) = []
pairs (formal ∷ net ∷ names) = record { formal = formal; net = net } ∷ pairs names

-- the connections of an instance, whose first names are those of its cell and its own
abbrev pub ties_in : List (List ℕ) → List Tie
ties_in names = pairs (drop 2 names)

-- the number of the cell with a name, and the cell
abbrev pub number_of : List CellParts → List (List ℕ) → Option ℕ
number_of cells names = position (bytes_eq (first_name names)) (names_of cells)

abbrev pub is_for : List ℕ → Tie → Bool
is_for formal tie = bytes_eq tie.formal formal

-- the net of a pin or of the output
abbrev pub net_for : List Tie → List ℕ → List ℕ
net_for [] formal = []
net_for (tie ∷ ties) formal = if is_for formal tie then tie.net else net_for ties formal

-- At this place stands the net of a pin or of the output that an instance of these names gives.
pub record IsNetPlace (names : List (List ℕ)) (formal : List ℕ) (place : ℕ) : Type 0 where
  pub given : list_any (is_for formal) (ties_in names) ≡ true
  pub net : slice_get names place ≡ Some (net_for (ties_in names) formal)

abbrev pub gate_of : ℕ → CellParts → List Tie → DraftGate
gate_of number cell ties =
    record { cell = record { 0 = number }; pins = map (net_for ties) cell.pins; out = net_for ties cell.output }

abbrev pub gate_at : ℕ → List Tie → Option CellParts → List DraftGate
gate_at number ties None = []
gate_at number ties (Some cell) = gate_of number cell ties ∷ []

abbrev pub gate_if : List CellParts → List Tie → Option ℕ → List DraftGate
gate_if cells ties None = []
gate_if cells ties (Some number) = gate_at number ties (slice_get cells number)

-- the gate of an instance
abbrev pub gate_by : List CellParts → List (List ℕ) → List DraftGate
gate_by cells names = gate_if cells (ties_in names) (number_of cells names)

-- the wire of an assignment
abbrev pub wire_by : List (List ℕ) → List Wire
wire_by [] = []
wire_by (to ∷ []) = []
wire_by (to ∷ from ∷ names) = record { from = from; to = to } ∷ []

-- The parts of a statement.

abbrev pub header_in : Task → List (List ℕ) → List (List ℕ)
header_in task.Header names = names
header_in other names = []

abbrev pub inputs_in : Task → List (List ℕ) → List (List ℕ)
inputs_in task.Inputs names = names
inputs_in other names = []

abbrev pub outputs_in : Task → List (List ℕ) → List (List ℕ)
outputs_in task.Outputs names = names
outputs_in other names = []

abbrev pub gates_in : List CellParts → Task → List (List ℕ) → List DraftGate
gates_in cells task.Instance names = gate_by cells names
gates_in cells other names = []

abbrev pub wires_in : Task → List (List ℕ) → List Wire
wires_in task.Assignment names = wire_by names
wires_in other names = []

-- all that the statements have of one part
abbrev pub all_in : {A : Type 0} → (Task → List (List ℕ) → List A) → List Statement → List A
all_in part said = flat_map (λ (s : Statement). part s.task s.names) said

-- the names of the ports, which stand in the header behind that of the model
abbrev pub ports_of : List Statement → List (List ℕ)
ports_of said = drop 1 (all_in header_in said)

-- The netlist by names.
abbrev pub draft_of : List CellParts → List Statement → GateDraft
draft_of cells said = record {
  model = model_of (all_in header_in said);
  inputs = all_in inputs_in said;
  outputs = all_in outputs_in said;
  gates = all_in (gates_in cells) said;
  wires = all_in wires_in said;
}
