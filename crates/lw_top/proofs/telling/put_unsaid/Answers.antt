use Rattle.lw_io.proofs.Putting.{Writes-both}
use Rattle.lw_top.proofs.telling.put_unsaid.Goals as goal

pub returns : goal.returns
returns g c = Writes-both c.put.ensures c.put_no_verilog.ensures
