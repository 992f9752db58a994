use Rattle.lw_io.proofs.Putting.{Writes-both}
use Rattle.lw_mapped.proofs.lines.put_tie.Goals as goal

pub returns : goal.returns
returns g c = Writes-both c.put_word.ensures (Writes-both c.put.ensures c.put-2.ensures)
