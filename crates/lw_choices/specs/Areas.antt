-- The area of a cover: that of its gates, each as often as it is used, cut at a greatest area.
use Rattle.std.specs.Prelude.{ℕ, ◌+◌, ◌^◌, min, List, [], length, map, slice_index_or}
pub use Rattle.lw_facts.specs.Sums.{total}
use Rattle.lw_laws.specs.Costs.{Cost}
use Rattle.lw_genlib.specs.Cells.{CellParts}
use Rattle.lw_genlib.specs.Tables.{delays_of_cells}

-- the greatest area that is told
abbrev pub most_area : ℕ
most_area = 2 ^ 62

abbrev pub area_of_cell : CellParts → ℕ
area_of_cell cell = cell.area.0

-- the area of the cell with a number: 0 past the last
abbrev pub area_at : List CellParts → ℕ → ℕ
area_at cells cell = slice_index_or (map area_of_cell cells) cell 0

-- an input has no area, and a cell its own and those of its pins
abbrev pub area_cost : List CellParts → Cost
area_cost cells = record {
  cap = most_area;
  leaf = λ input. 0;
  value = λ cell areas. min most_area (area_at cells cell + total areas);
  pin_counts = map length (delays_of_cells cells);
}
