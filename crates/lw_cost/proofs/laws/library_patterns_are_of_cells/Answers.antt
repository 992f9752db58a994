use Rattle.lw_cost.proofs.OfCells.{of_cells}
use Rattle.lw_cost.proofs.laws.library_patterns_are_of_cells.Goals as goal

pub returns : goal.returns
returns c = of_cells
