use Rattle.lw_shown.proofs.faults.put_shown_fault.Goals as goal

pub returns-in-Unread : goal.returns-in-Unread
returns-in-Unread g c = rw c.in-Unread.is c.put_named.ensures

pub returns-in-Undefined : goal.returns-in-Undefined
returns-in-Undefined g c = rw c.in-Undefined.is (rw c.as_bytes.ensures.bytes at c.put_named-in-Undefined.ensures)

pub returns-in-Cycle : goal.returns-in-Cycle
returns-in-Cycle g c = rw c.in-Cycle.is (rw c.as_bytes-in-Cycle.ensures.bytes at c.put_named-in-Cycle.ensures)

pub returns-in-NetCycle : goal.returns-in-NetCycle
returns-in-NetCycle g c = rw c.in-NetCycle.is (rw c.as_bytes-in-NetCycle.ensures.bytes at c.put_named-in-NetCycle.ensures)

pub returns-in-Twice : goal.returns-in-Twice
returns-in-Twice g c = rw c.in-Twice.is (rw c.as_bytes-in-Twice.ensures.bytes at c.put_behind-in-Twice.ensures)

pub returns-in-Undriven : goal.returns-in-Undriven
returns-in-Undriven g c = rw c.in-Undriven.is (rw c.as_bytes-in-Undriven.ensures.bytes at c.put_behind-in-Undriven.ensures)
