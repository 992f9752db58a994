use Prim.{search}
use Rattle.lw_io.proofs.Putting.{text_ends}
use Rattle.lw_area.proofs.telling.tell_word.Goals as goal

pub returns : goal.returns
returns g c = text_ends c.new-out.ensures c.put_words.ensures c.end.ensures search
