-- Where the patterns of each cell stand.
use Rattle.std.proofs.Common.{List, length, map, arith}
use Rattle.std.proofs.lemmas.List.{length-map}
use Rattle.std.proofs.lemmas.Option.{slice_get_within}
use Rattle.lw_laws.specs.Covers.{Pattern}
use Rattle.lw_laws.proofs.Extracts.{listed_at}
use Rattle.lw_fixed.specs.declared.micro.Micro.{Micro}
use Rattle.lw_genlib.specs.Cells.{CellParts}
use Rattle.lw_genlib.specs.Tables.{cell_delays, delays_of_cells}
use Rattle.lw_label.specs.Delays.{time_cost}
use Rattle.lw_cost.specs.Least.{AreOfCells}
use Rattle.lw_check.specs.Spans.{HasCellsBelow}

-- the cells of patterns are those of the library
pub cells_below : (cells : List CellParts) (starts : List Micro) (pats : List Pattern) → AreOfCells (time_cost cells starts).pin_counts pats → HasCellsBelow (length cells) pats
cells_below cells starts pats of_cells j p at =
    let is = of_cells p (listed_at pats j p at) in
    let inside = slice_get_within (map length (delays_of_cells cells)) p.cell is.pin_count is.has in
    let a = length-map (delays_of_cells cells) length in
    let b = length-map cells cell_delays in
    omega arith
