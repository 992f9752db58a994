use Rattle.lw_files.proofs.telling.put_fault.Goals as goal

pub returns-in-Unread : goal.returns-in-Unread
returns-in-Unread g c = rw c.in-Unread.is c.put_two.ensures

pub returns-in-TooLong : goal.returns-in-TooLong
returns-in-TooLong g c = rw c.in-TooLong.is c.put_three.ensures

pub returns-in-Library : goal.returns-in-Library
returns-in-Library g c = rw c.in-Library.is (rw c.lib_text.ensures at c.put_broken.ensures)

pub returns-in-Network : goal.returns-in-Network
returns-in-Network g c = rw c.in-Network.is (rw c.blif_text.ensures at c.put_broken-in-Network.ensures)

pub returns-in-Undefined : goal.returns-in-Undefined
returns-in-Undefined g c = rw c.in-Undefined.is (rw c.as_bytes.ensures.bytes at c.put_three-in-Undefined.ensures)

pub returns-in-Cycle : goal.returns-in-Cycle
returns-in-Cycle g c = rw c.in-Cycle.is (rw c.as_bytes-in-Cycle.ensures.bytes at c.put_three-in-Cycle.ensures)

pub returns-in-Mapped : goal.returns-in-Mapped
returns-in-Mapped g c = rw c.in-Mapped.is (rw c.mapped_kind_text.ensures at c.put_broken-in-Mapped.ensures)

pub returns-in-Twice : goal.returns-in-Twice
returns-in-Twice g c = rw c.in-Twice.is (rw c.as_bytes-in-Twice.ensures.bytes at c.put_four.ensures)

pub returns-in-Undriven : goal.returns-in-Undriven
returns-in-Undriven g c = rw c.in-Undriven.is (rw c.as_bytes-in-Undriven.ensures.bytes at c.put_four-in-Undriven.ensures)

pub returns-in-NetCycle : goal.returns-in-NetCycle
returns-in-NetCycle g c = rw c.in-NetCycle.is (rw c.as_bytes-in-NetCycle.ensures.bytes at c.put_three-in-NetCycle.ensures)

pub returns-in-Memory : goal.returns-in-Memory
returns-in-Memory g c = rw c.in-Memory.is c.put.ensures
