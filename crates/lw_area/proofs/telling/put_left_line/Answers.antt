use Rattle.lw_io.proofs.Putting.{Writes-both}
use Rattle.lw_area.proofs.telling.put_left_line.Goals as goal

pub returns : goal.returns
returns g c = Writes-both c.put.ensures (Writes-both (rw c.word_at.ensures at c.put_shown.ensures) (rw c.limit_text.ensures at c.put-2.ensures))
