use Rattle.lw_io.proofs.Putting.{Writes-both}
use Rattle.lw_verilog.proofs.putting.put_assignment.Goals as goal

pub returns : goal.returns
returns g c = Writes-both c.put.ensures (Writes-both c.put_escaped.ensures (Writes-both c.put-2.ensures (Writes-both c.put_escaped-2.ensures c.put-3.ensures)))
