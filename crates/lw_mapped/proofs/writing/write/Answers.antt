use Prim.{search}
use Rattle.lw_io.proofs.Putting.{text_ends}
use Rattle.lw_mapped.proofs.writing.write.Goals as goal

pub put_text-requires : goal.put_text-requires
put_text-requires g c = record { over = c.requires.over; framed = c.requires.framed; classes = c.requires.classes }

pub returns : goal.returns
returns g c = text_ends c.new-out.ensures c.put_text.ensures c.end.ensures search
