-- What the gates of a netlist take, each counted once.
use Rattle.std.specs.Prelude.{ℕ, ◌+◌, List, [], ◌∷◌, Option, Some, None, slice_get}
use Rattle.lw_genlib.specs.Cells.{CellParts}
use Rattle.lw_netlist.specs.declared.gate.Gate.{Gate}

-- the area of a cell, 0 where there is none
abbrev pub area_in : Option CellParts → ℕ
area_in None = 0
area_in (Some cell) = cell.area.0

-- the sum over the gates
abbrev pub area_of : List CellParts → List Gate → ℕ
area_of cells [] = 0
area_of cells (gate ∷ gates) = area_in (slice_get cells gate.cell.0) + area_of cells gates
