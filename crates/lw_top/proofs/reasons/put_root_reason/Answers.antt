use Rattle.lw_io.proofs.Putting.{Writes-both}
use Rattle.lw_top.proofs.reasons.put_root_reason.Goals as goal

pub returns : goal.returns
returns g c =
    Writes-both c.put.ensures
    (Writes-both (rw c.as_bytes.ensures.bytes at c.put-2.ensures)
    (Writes-both c.put-3.ensures (Writes-both (rw c.from.ensures at c.put_number.ensures) (Writes-both c.put-4.ensures (rw c.from-2.ensures at c.put_number-2.ensures)))))
