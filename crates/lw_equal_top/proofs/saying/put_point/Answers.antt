use Rattle.lw_io.proofs.Putting.{Writes-both}
use Rattle.lw_equal_top.proofs.saying.put_point.Goals as goal

pub returns : goal.returns
returns g c = Writes-both (rw c.kind_text.ensures at c.put.ensures) (rw c.as_bytes.ensures.bytes at c.put_shown.ensures)
