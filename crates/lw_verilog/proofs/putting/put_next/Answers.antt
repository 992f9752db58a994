use Rattle.lw_io.proofs.Putting.{Writes-both}
use Rattle.lw_verilog.proofs.putting.put_next.Goals as goal

pub returns : goal.returns
returns g c = Writes-both c.put.ensures c.put_escaped.ensures
