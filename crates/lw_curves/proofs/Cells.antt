-- What a library says of its cells.
use Rattle.std.proofs.Common.{◌≡◌, ◌<◌, arith, ℕ, zero, suc, List, [], ◌∷◌, Some, length, map, slice_get, ap}
use Rattle.std.proofs.lemmas.Option.{same_Some, none-some}
use Rattle.lw_laws.specs.Covers.{HasPins}
use Rattle.lw_genlib.specs.Cells.{CellParts}
use Rattle.lw_genlib.specs.Tables.{delays_of_cells}
use Rattle.lw_choices.specs.Areas.{area_of_cell, area_at}

-- the area of a cell of the library
pub area_is : (cells : List CellParts) (place : ℕ) (cell : CellParts) → slice_get cells place ≡ Some cell → area_at cells place ≡ cell.area.0
area_is [] place cell at = absurd (none-some cell at)
area_is (other ∷ cells) zero cell at = ap area_of_cell (same_Some other cell at)
area_is (other ∷ cells) (suc place) cell at = area_is cells place cell at

-- a cell with some number of pins is there
pub cell_in : (cells : List CellParts) (place n : ℕ) → HasPins (map length (delays_of_cells cells)) place n → place < length cells
cell_in [] place n has = cc
cell_in (cell ∷ cells) zero n has = omega arith
cell_in (cell ∷ cells) (suc place) n has = let ih = cell_in cells place n has in omega arith
