use Rattle.lw_io.proofs.Putting.{Writes-both}
use Rattle.lw_equal_top.proofs.telling.put_port_fault.Goals as goal

pub returns : goal.returns
returns g c = Writes-both (rw (c.file_of.ensures, c.kind_name.ensures, c.as_bytes.ensures.bytes) at c.put_named.ensures) (rw c.file_of-2.ensures at c.put_behind.ensures)
