-- By the lemma.
use Rattle.lw_settle.proofs.Agreeing.{of_stored_cells}
use Rattle.lw_settle.proofs.laws.stores_are_of_cells.Goals as goal

pub returns : goal.returns
returns c = of_stored_cells
