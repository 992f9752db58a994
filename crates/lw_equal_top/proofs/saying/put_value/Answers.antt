use Rattle.lw_io.proofs.Putting.{Writes-both}
use Rattle.lw_equal_top.proofs.saying.put_value.Goals as goal

pub returns : goal.returns
returns g c = Writes-both c.put_shown.ensures (rw c.value_text.ensures at c.put.ensures)
