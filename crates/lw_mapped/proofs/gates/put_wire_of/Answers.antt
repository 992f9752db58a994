use Rattle.lw_io.proofs.Putting.{Writes-both}
use Rattle.lw_mapped.proofs.gates.put_wire_of.Goals as goal

pub returns : goal.returns
returns g c = Writes-both (Writes-both (Writes-both c.put.ensures c.put_word.ensures) c.put_word-2.ensures) c.put-2.ensures
