use Rattle.std.proofs.Common.{◌≡◌, map, take}
use Rattle.lw_genlib.specs.Cells.{bytes_of, names_of}
use Rattle.lw_genlib.proofs.library.index.Given as goal

abbrev pub invariant-loop-cell : goal.invariant-loop-cell
invariant-loop-cell l = map bytes_of l.names.keys ≡ take l.cell-index (names_of l.cells)
