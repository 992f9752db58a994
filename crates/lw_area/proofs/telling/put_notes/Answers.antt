use Rattle.lw_io.proofs.Putting.{Writes-both}
use Rattle.lw_area.proofs.telling.put_notes.Goals as goal

pub returns-then-task : goal.returns-then-task
returns-then-task g c = rw c.if-task.true (Writes-both (rw c.deref.ensures.value at c.put_left.ensures) c.put_counts.ensures)
