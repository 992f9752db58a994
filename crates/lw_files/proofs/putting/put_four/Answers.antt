use Rattle.lw_io.proofs.Putting.{Writes-both}
use Rattle.lw_files.proofs.putting.put_four.Goals as goal

pub returns : goal.returns
returns g c = Writes-both c.put.ensures c.put_three.ensures
