use Prim.{search}
use Rattle.lw_io.proofs.Putting.{Writes-both, text_ends}
use Rattle.lw_top.proofs.outcome.write_sizes.Goals as goal

pub returns : goal.returns
returns g c =
    text_ends c.new-text.ensures
    (Writes-both (rw c.from.ensures at c.put_count.ensures)
    (Writes-both (rw c.from-2.ensures at c.put_count-2.ensures)
    (Writes-both (rw c.from-3.ensures at c.put_count-3.ensures) (Writes-both (Writes-both c.put.ensures (Writes-both c.put_time.ensures c.put-2.ensures)) (Writes-both c.put-3.ensures (Writes-both c.put_steps.ensures c.put-4.ensures))))))
    c.end.ensures search
