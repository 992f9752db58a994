use Rattle.lw_label.proofs.visits.Visits.due_unless_still.Goals as goal

pub due-requires : goal.due-requires
due-requires c = c.requires

pub returns-clause-kept : goal.returns-clause-kept
returns-clause-kept c = c.due.ensures.kept

pub returns-clause-at : goal.returns-clause-at
returns-clause-at c = c.due.ensures.at

pub returns-clause-whole : goal.returns-clause-whole
returns-clause-whole c = λ whole none. absurd (c.due.ensures.whole whole none)
