use Prim.{search}
use Rattle.lw_io.proofs.Putting.{text_ends}
use Rattle.lw_report.proofs.timing.Timing.write.Goals as goal

pub returns : goal.returns
returns g c = text_ends c.new-out.ensures c.put_report.ensures c.end.ensures search
