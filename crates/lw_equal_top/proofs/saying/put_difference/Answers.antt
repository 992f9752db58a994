use Rattle.lw_io.proofs.Putting.{Writes-both}
use Rattle.lw_equal_top.proofs.saying.put_difference.Goals as goal

pub returns : goal.returns
returns g c = Writes-both c.put_point_line.ensures (rw c.deref.ensures.value at c.put_values.ensures)
