use Rattle.lw_io.proofs.Putting.{Writes-both}
use Rattle.lw_shown.proofs.faults.put_behind.Goals as goal

pub returns : goal.returns
returns g c = Writes-both c.put_named.ensures c.put.ensures
