use Rattle.lw_io.proofs.Putting.{Writes-both}
use Rattle.lw_area.proofs.telling.put_line.Goals as goal

pub returns : goal.returns
returns g c = Writes-both c.put.ensures (Writes-both c.put_refusal.ensures c.put-2.ensures)
