use Rattle.lw_io.proofs.Putting.{Writes-both}
use Rattle.lw_shown.proofs.faults.put_plain_fault.Goals as goal

pub returns : goal.returns
returns g c = Writes-both c.put_shown.ensures c.put_fault.ensures
