use Rattle.lw_equal_top.proofs.saying.put_answer.Goals as goal

pub returns-in-Equal : goal.returns-in-Equal
returns-in-Equal g c = rw c.in-Equal.is c.put.ensures

pub returns-in-Differ : goal.returns-in-Differ
returns-in-Differ g c = rw c.in-Differ.is c.put_difference.ensures

pub returns-in-Undecided : goal.returns-in-Undecided
returns-in-Undecided g c = rw c.in-Undecided.is (rw c.as_slice.ensures at c.put_undecided.ensures)
