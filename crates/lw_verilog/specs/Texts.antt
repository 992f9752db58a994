-- The Verilog text of a netlist.
use Rattle.std.specs.Prelude.{ℕ, zero, suc, ◌+◌, ◌-◌, ◌==◌, Bool, List, [], ◌∷◌, ◌++◌, Option, Some, None, length, drop}
use Rattle.std.specs.Prelude.{if◌then◌else◌, codes, decimal, slice_get, slice_index_or}
use Rattle.std.specs.List.{flat_map}
use Rattle.std.specs.Str.{bytes_eq}
use Rattle.lw_pool.specs.declared.id.NetId.{NetId}
use Rattle.lw_genlib.specs.Cells.{CellParts}
use Rattle.lw_netlist.specs.declared.gate.Gate.{Gate}
use Rattle.lw_netlist.specs.declared.gate.Port.{Port}
use Rattle.lw_named_netlist.specs.Closing.{is_among}
use Rattle.lw_netlist.specs.Netlists.{NetlistParts}
use Rattle.lw_verilog.specs.Pieces.{stroke}
use Rattle.lw_mapped.specs.Texts.{net_name, names_of_inputs, names_of_outputs}

-- a name: a backslash, its bytes and a space
abbrev pub escaped : List ℕ → List ℕ
escaped name = stroke ∷ name ++ 32 ∷ []

-- a further name of a list: a comma, a space and the name
abbrev pub next_name : List ℕ → List ℕ
next_name name = 44 ∷ 32 ∷ escaped name

-- further names of a list
abbrev pub further : List (List ℕ) → List ℕ
further names = flat_map (λ name. next_name name) names

-- names with commas between
abbrev pub joined : List (List ℕ) → List ℕ
joined [] = []
joined (name ∷ names) = escaped name ++ further names

-- the module and its ports
abbrev pub header_text : NetlistParts → List ℕ
header_text n =
    codes "module " ++ (escaped n.model ++ (40 ∷ (joined (names_of_inputs n ++ names_of_outputs n) ++ codes ");\n")))

-- a declaration by this keyword
abbrev pub declaration : List ℕ → List ℕ → List ℕ
declaration keyword name = keyword ++ (escaped name ++ codes ";\n")

-- a net that no output has the name of
abbrev pub wire_text : List (List ℕ) → List ℕ → List ℕ
wire_text outputs name = if is_among outputs name then [] else declaration (codes "wire ") name

-- a pin or the output, and its net
abbrev pub tie_text : List ℕ → List ℕ → List ℕ
tie_text formal net = 46 ∷ escaped formal ++ (40 ∷ escaped net ++ 41 ∷ [])

-- the pins, each with a comma behind
abbrev pub pins_text : List (List ℕ) → List (List ℕ) → List NetId → List ℕ
pins_text names [] nets = []
pins_text names (pin ∷ pins) [] = []
pins_text names (pin ∷ pins) (net ∷ nets) =
    (tie_text pin (net_name names net) ++ 44 ∷ 32 ∷ []) ++ pins_text names pins nets

-- the first byte of each name of an instance
abbrev pub letter_u : ℕ
letter_u = 117

abbrev pub instance_name : ℕ → List ℕ
instance_name number = letter_u ∷ decimal number

-- a name that begins as those of instances do
abbrev pub begins_u : List ℕ → Bool
begins_u name = slice_index_or name 0 0 == letter_u

abbrev pub gate_line : List (List ℕ) → ℕ → Gate → Option CellParts → List ℕ
gate_line names number gate None = []
gate_line names number gate (Some cell) =
    escaped cell.name
    ++ (instance_name number
    ++ (32 ∷ 40 ∷ pins_text names cell.pins gate.pins
    ++ (tie_text cell.output (net_name names gate.out) ++ codes ");\n")))

abbrev pub gate_text : List CellParts → List (List ℕ) → ℕ → Gate → List ℕ
gate_text cells names number gate = gate_line names number gate (slice_get cells gate.cell.0)

-- how many numbers from this one on are passed over, at most so many, since they make names that are taken
unfoldable pub passed : List (List ℕ) → ℕ → ℕ → ℕ
passed taken zero number = 0
passed taken (suc most) number = if is_among taken (instance_name number) then 1 + passed taken most (suc number) else 0

-- the gates, numbered from this number on; no more numbers are passed over than there are names
unfoldable pub gates_text : List CellParts → List (List ℕ) → List (List ℕ) → ℕ → ℕ → List Gate → List ℕ
gates_text cells names taken most number [] = []
gates_text cells names taken most number (gate ∷ gates) =
    gate_text cells names (number + passed taken most number) gate
    ++ gates_text cells names taken (most - passed taken most number) (number + passed taken most number + 1) gates

abbrev pub assignment : List ℕ → List ℕ → List ℕ
assignment output net = codes "assign " ++ (escaped output ++ (codes "= " ++ (escaped net ++ codes ";\n")))

-- an output whose net has another name
abbrev pub assignment_text : List (List ℕ) → Port → List ℕ
assignment_text names port =
    if bytes_eq (net_name names port.net) port.name then [] else assignment port.name (net_name names port.net)

-- the names that no instance has
abbrev pub taken_names : NetlistParts → List (List ℕ)
taken_names n = n.names ++ names_of_outputs n

-- The text: the header, the inputs, the outputs, the further nets, the gates, the outputs whose nets have other names,
-- and the end.
abbrev pub verilog_text : List CellParts → NetlistParts → List ℕ
verilog_text cells n =
    header_text n
    ++ (flat_map (declaration (codes "input ")) (names_of_inputs n)
    ++ (flat_map (declaration (codes "output ")) (names_of_outputs n)
    ++ (flat_map (wire_text (names_of_outputs n)) (drop n.inputs n.names)
    ++ (gates_text cells n.names (taken_names n) (length (taken_names n)) 1 n.gates
    ++ (flat_map (assignment_text n.names) n.outputs ++ codes "endmodule\n")))))
