use Rattle.lw_io.proofs.Putting.{Writes-both}
use Rattle.lw_shown.proofs.faults.put_named.Goals as goal

pub returns : goal.returns
returns g c = Writes-both c.put_shown.ensures (Writes-both c.put.ensures c.put_shown-2.ensures)
