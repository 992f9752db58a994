use Rattle.lw_io.proofs.Putting.{Writes-both}
use Rattle.lw_files.proofs.telling.put_broken.Goals as goal

pub returns : goal.returns
returns g c = Writes-both c.put.ensures (Writes-both c.put-2.ensures (Writes-both (rw c.from.ensures at c.put_number.ensures) (Writes-both c.put-3.ensures c.put-4.ensures)))
