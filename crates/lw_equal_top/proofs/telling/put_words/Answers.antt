use Rattle.lw_io.proofs.Putting.{Writes-both}
use Rattle.lw_equal_top.proofs.telling.put_words.Goals as goal

pub returns : goal.returns
returns g c = Writes-both c.put.ensures (Writes-both (Writes-both c.put_word_fault.ensures c.put-2.ensures) c.put-3.ensures)
