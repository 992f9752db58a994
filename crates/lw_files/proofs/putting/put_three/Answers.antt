use Rattle.lw_io.proofs.Putting.{Writes-both}
use Rattle.lw_files.proofs.putting.put_three.Goals as goal

pub returns : goal.returns
returns g c = Writes-both c.put.ensures c.put_two.ensures
