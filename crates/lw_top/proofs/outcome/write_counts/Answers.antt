use Prim.{search}
use Rattle.lw_io.proofs.Putting.{Writes-both, text_ends}
use Rattle.lw_top.proofs.outcome.write_counts.Goals as goal

pub returns : goal.returns
returns g c =
    text_ends c.new-text.ensures
    (Writes-both (rw c.from.ensures at c.put_count.ensures) (Writes-both (rw c.from-2.ensures at c.put_count-2.ensures) c.put_count-3.ensures))
    c.end.ensures search
