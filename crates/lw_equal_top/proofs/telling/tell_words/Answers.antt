use Prim.{search}
use Rattle.lw_io.proofs.Putting.{text_ends}
use Rattle.lw_equal_top.proofs.telling.tell_words.Goals as goal

pub returns : goal.returns
returns g c = text_ends c.new-out.ensures c.put_words.ensures c.end.ensures search
