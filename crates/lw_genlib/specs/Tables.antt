-- The cells of a library as tables: by the number of a cell, the delays of its pins, and its truth; and the patterns of
-- all cells.
use Rattle.std.specs.Prelude.{ℕ, Bool, false, List, map, Option, Some, None, slice_get}
use Rattle.lw_fixed.specs.declared.micro.Micro.{Micro}
use Rattle.lw_laws.specs.Covers.{Timing, Pattern}
use Rattle.lw_laws.specs.Expressions.{Expr}
use Rattle.lw_laws.specs.Patterns.{patterns_of}
use Rattle.lw_laws.specs.Netlists.{CellTruth}
use Rattle.lw_genlib.specs.Cells.{CellParts, cell_value}

abbrev pub millionths : Micro → ℕ
millionths m = m.0

-- the delays of each cell's pins
abbrev pub cell_delays : CellParts → List ℕ
cell_delays cell = map millionths cell.delays

abbrev pub delays_of_cells : List CellParts → List (List ℕ)
delays_of_cells cells = map cell_delays cells

-- the starts of inputs, and the delays of each cell's pins
abbrev pub timing_of : List CellParts → List Micro → Timing
timing_of cells starts = record { starts = map millionths starts; delays = delays_of_cells cells }

-- the truth of a cell, at the truths of its pins
abbrev pub truth_in : Option CellParts → List Bool → Bool
truth_in None ys = false
truth_in (Some cell) ys = cell_value cell ys

abbrev pub truth_of_cells : List CellParts → CellTruth
truth_of_cells cells cell ys = truth_in (slice_get cells cell) ys

-- the forms of a cell's function
abbrev pub forms_of : CellParts → List Expr
forms_of cell = cell.forms

-- the patterns of the cells: by cells, their forms, and the bracketings of a form
abbrev pub library_patterns : List CellParts → List Pattern
library_patterns cells = patterns_of (map forms_of cells)
