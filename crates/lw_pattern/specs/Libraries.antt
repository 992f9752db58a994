-- The patterns of a library, and what its cells say of them.
use Rattle.std.specs.Prelude.{ℕ, Bool, false, List, length, map, Option, Some, None, slice_get}
use Rattle.lw_laws.specs.Netlists.{CellTruth}
use Rattle.lw_genlib.specs.Cells.{CellParts, cell_value}
pub use Rattle.lw_genlib.specs.Tables.{forms_of, library_patterns}

abbrev pub pin_count : CellParts → ℕ
pin_count cell = length cell.pins

abbrev pub pin_counts : List CellParts → List ℕ
pin_counts cells = map pin_count cells

abbrev pub value_of : Option CellParts → List Bool → Bool
value_of (Some cell) ys = cell_value cell ys
value_of None ys = false

-- the value of each cell at these values of its pins
abbrev pub library_truth : List CellParts → CellTruth
library_truth cells cell ys = value_of (slice_get cells cell) ys
