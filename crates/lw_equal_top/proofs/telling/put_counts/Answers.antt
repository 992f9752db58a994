use Rattle.lw_io.proofs.Putting.{Writes-both}
use Rattle.lw_equal_top.proofs.telling.put_counts.Goals as goal

pub returns : goal.returns
returns g c =
    Writes-both (rw c.from.ensures at c.put_count.ensures)
    (Writes-both (rw c.from-2.ensures at c.put_count-2.ensures)
    (Writes-both (rw c.from-3.ensures at c.put_count-3.ensures)
    (Writes-both (rw c.from-4.ensures at c.put_count-4.ensures)
    (Writes-both (rw c.from-5.ensures at c.put_count-5.ensures) (rw c.from-6.ensures at c.put_count-6.ensures)))))
