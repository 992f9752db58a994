use Prim.{search}
use Rattle.lw_io.proofs.Putting.{text_ends}
use Rattle.lw_verilog.proofs.writing.write_verilog.Goals as goal

pub returns : goal.returns
returns g c = text_ends c.new-out.ensures c.put_text.ensures c.end.ensures search
