use Rattle.lw_io.proofs.Putting.{Writes-both}
use Rattle.lw_equal_top.proofs.saying.put_point_line.Goals as goal

pub returns : goal.returns
returns g c = Writes-both c.put.ensures (Writes-both c.put_point.ensures c.put-2.ensures)
