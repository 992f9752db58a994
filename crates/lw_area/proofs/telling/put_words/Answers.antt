use Rattle.lw_io.proofs.Putting.{Writes-both}
use Rattle.lw_area.proofs.telling.put_words.Goals as goal

pub returns : goal.returns
returns g c =
    Writes-both c.put.ensures
    (Writes-both (Writes-both (rw c.as_bytes.ensures.value at c.put_word.ensures) (Writes-both (rw c.why_text.ensures at c.put-2.ensures) c.put-3.ensures)) c.put-4.ensures)
