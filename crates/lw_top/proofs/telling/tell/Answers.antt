use Prim.{search}
use Rattle.lw_io.proofs.Putting.{text_ends}
use Rattle.lw_top.proofs.telling.tell.Goals as goal

pub returns : goal.returns
returns g c = text_ends c.new-out.ensures c.put_outcome.ensures c.end.ensures search
