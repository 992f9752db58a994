use Rattle.lw_io.proofs.Putting.{Writes-both}
use Rattle.lw_area.proofs.telling.put_refusal.Goals as goal

pub returns-in-Library : goal.returns-in-Library
returns-in-Library g c = rw c.in-Library.is (rw c.as_bytes.ensures.value at c.put_shown_fault.ensures)

pub returns-in-Network : goal.returns-in-Network
returns-in-Network g c = rw c.in-Network.is (rw c.as_bytes-in-Network.ensures.value at c.put_shown_fault-in-Network.ensures)

pub returns-in-Further : goal.returns-in-Further
returns-in-Further g c = rw c.in-Further.is (rw c.word_at.ensures at c.put_shown_fault-in-Further.ensures)

pub returns-in-Strange : goal.returns-in-Strange
returns-in-Strange g c = rw c.in-Strange.is (rw (c.word_at-in-Strange.ensures, c.as_bytes-in-Strange.ensures.bytes) at c.put_named.ensures)

pub returns-in-Mapped : goal.returns-in-Mapped
returns-in-Mapped g c = rw c.in-Mapped.is c.put_shown_fault-in-Mapped.ensures

pub returns-in-Unmapped : goal.returns-in-Unmapped
returns-in-Unmapped g c = rw c.in-Unmapped.is c.put_unmapped.ensures

pub returns-in-No : goal.returns-in-No
returns-in-No g c = rw c.in-No.is (Writes-both c.put.ensures c.put_reason.ensures)
