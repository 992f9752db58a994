-- Libraries and their patterns.
use Rattle.std.specs.Prelude.{List, length, map}
use Rattle.lw_genlib.specs.Cells.{CellParts}
use Rattle.lw_genlib.specs.Tables.{delays_of_cells}
use Rattle.lw_laws.specs.Covers.{Pattern}
use Rattle.lw_cost.specs.Least.{AreOfCells}

-- the patterns are of the library's cells
abbrev pub Fits : List CellParts → List Pattern → Type 0
Fits cells pats = AreOfCells (map length (delays_of_cells cells)) pats
