use Rattle.lw_cost.proofs.CellMatches.{of_cell, of_pattern}
use Rattle.lw_cost.proofs.laws.matches_have_cells.Goals as goal

pub returns : goal.returns
returns c g cost pats class m of =
    (of_cell g cost pats class m of, of_pattern g cost pats class m of)
