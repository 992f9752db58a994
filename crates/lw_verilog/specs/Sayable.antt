-- Which netlists have a Verilog text.
use Rattle.std.specs.Prelude.{ℕ, Bool, false, not, List, [], ◌∷◌, ◌++◌, find, Option, Some, None, if◌then◌else◌}
use Rattle.std.specs.Prelude.{option_map, slice_get, length, nat_lt}
use Rattle.std.specs.List.{flat_map, list_all, list_any}
use Rattle.std.specs.Option.{option_or}
use Rattle.std.specs.Str.{bytes_eq}
use Rattle.lw_pool.specs.declared.latch.Frame.{Frame}
use Rattle.lw_genlib.specs.Cells.{CellParts}
use Rattle.lw_netlist.specs.declared.gate.Gate.{Gate}
use Rattle.lw_named_netlist.specs.Closing.{is_among}
use Rattle.lw_netlist.specs.Netlists.{NetlistParts}
use Rattle.lw_mapped.specs.Texts.{net_name, names_of_inputs, names_of_outputs}
use Rattle.lw_verilog.specs.declared.reason.NoVerilog.{NoVerilog}
use Rattle.lw_verilog.specs.declared.reason.NoVerilog.TheVariants as reason
use Rattle.lw_verilog.specs.Pieces.{is_visible}

-- a name with a byte outside 33 to 126
abbrev pub is_hidden : List ℕ → Bool
is_hidden name = not (list_all is_visible name)

abbrev pub cell_of : List CellParts → Gate → Option CellParts
cell_of cells gate = slice_get cells gate.cell.0

-- the cell, its pins, its output and the net
abbrev pub cell_names : List ℕ → Option CellParts → List (List ℕ)
cell_names net None = net ∷ []
cell_names net (Some cell) = cell.name ∷ cell.pins ++ cell.output ∷ net ∷ []

abbrev pub gate_names : List CellParts → List (List ℕ) → Gate → List (List ℕ)
gate_names cells names gate = cell_names (net_name names gate.out) (cell_of cells gate)

-- the names of a text, in the order in which they are looked at
abbrev pub names_said : List CellParts → NetlistParts → List (List ℕ)
names_said cells n = n.model ∷ names_of_inputs n ++ (names_of_outputs n ++ flat_map (gate_names cells n.names) n.gates)

abbrev pub first_hidden : List CellParts → NetlistParts → Option (List ℕ)
first_hidden cells n = find is_hidden (names_said cells n)

-- the first output with an input's name
abbrev pub first_same : NetlistParts → Option (List ℕ)
first_same n = find (is_among (names_of_inputs n)) (names_of_outputs n)

abbrev pub has_name : List ℕ → Option CellParts → Bool
has_name name None = false
has_name name (Some cell) = bytes_eq name cell.name

-- the model, if a gate's cell has its name
abbrev pub clash : List CellParts → NetlistParts → Option (List ℕ)
clash cells n = if list_any (λ gate. has_name n.model (cell_of cells gate)) n.gates then Some n.model else None

-- the cell's name, if its output has the name of a pin
abbrev pub cell_tied : Option CellParts → List (List ℕ)
cell_tied None = []
cell_tied (Some cell) = if is_among cell.pins cell.output then cell.name ∷ [] else []

abbrev pub first_or_none : List (List ℕ) → Option (List ℕ)
first_or_none [] = None
first_or_none (name ∷ names) = Some name

-- the first gate's cell whose output has the name of a pin
abbrev pub first_tied : List CellParts → NetlistParts → Option (List ℕ)
first_tied cells n = first_or_none (flat_map (λ gate. cell_tied (cell_of cells gate)) n.gates)

-- the first test of the cells by which a netlist has no text
abbrev pub cells_refused : List CellParts → NetlistParts → Option NoVerilog
cells_refused cells n =
    option_or (option_map reason.Clash (clash cells n)) (option_map reason.Pins (first_tied cells n))

-- The first test by which a netlist without latches has no text.
abbrev pub netlist_refused : List CellParts → NetlistParts → Option NoVerilog
netlist_refused cells n =
    option_or (option_map reason.Bytes (first_hidden cells n))
    (option_or (option_map reason.Same (first_same n)) (cells_refused cells n))

-- The first test by which a netlist with this frame has no text.
abbrev pub refused : List CellParts → NetlistParts → Frame → Option NoVerilog
refused cells n frame = if nat_lt 0 (length frame.latches) then Some reason.Latches else netlist_refused cells n
