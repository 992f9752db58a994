use Rattle.lw_area.proofs.Attaining.{library_labels, own_cells}
use Rattle.lw_area.proofs.recovering.Case.found.Goals as goal

pub new-cost-requires : goal.new-cost-requires
new-cost-requires c = c.requires.case.model.starts.early

pub settled-requires-clause-of_cells : goal.settled-requires-clause-of_cells
settled-requires-clause-of_cells c =
    rw (c.new-cost.ensures.lib, c.requires.patterns) (own_cells c.args.self.now.library.now c.args.self.now.model.now.starts c.requires.case.library)

pub attaining_matches-requires-clause-labels : goal.attaining_matches-requires-clause-labels
attaining_matches-requires-clause-labels c =
    rw (c.new-cost.ensures.lib, c.new-cost.ensures.starts, c.requires.patterns) (library_labels c.args.self.now c.requires.case)

pub attaining_matches-requires-clause-bounds : goal.attaining_matches-requires-clause-bounds
attaining_matches-requires-clause-bounds c = rw c.marks.ensures at c.in_ok-bounds.ensures.bounds
