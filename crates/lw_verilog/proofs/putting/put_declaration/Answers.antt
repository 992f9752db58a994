use Rattle.lw_io.proofs.Putting.{Writes-both}
use Rattle.lw_verilog.proofs.putting.put_declaration.Goals as goal

pub returns : goal.returns
returns g c = Writes-both c.put.ensures (Writes-both c.put_escaped.ensures c.put-2.ensures)
