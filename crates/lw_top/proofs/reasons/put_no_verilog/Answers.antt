use Rattle.lw_top.proofs.reasons.put_no_verilog.Goals as goal

pub returns-in-Latches : goal.returns-in-Latches
returns-in-Latches g c = rw c.in-Latches.is c.put.ensures

pub returns-in-Bytes : goal.returns-in-Bytes
returns-in-Bytes g c = rw c.in-Bytes.is (rw c.as_bytes.ensures.bytes at c.put_three.ensures)

pub returns-in-Same : goal.returns-in-Same
returns-in-Same g c = rw c.in-Same.is (rw c.as_bytes-in-Same.ensures.bytes at c.put_three-in-Same.ensures)

pub returns-in-Clash : goal.returns-in-Clash
returns-in-Clash g c = rw c.in-Clash.is (rw c.as_bytes-in-Clash.ensures.bytes at c.put_three-in-Clash.ensures)

pub returns-in-Pins : goal.returns-in-Pins
returns-in-Pins g c = rw c.in-Pins.is (rw c.as_bytes-in-Pins.ensures.bytes at c.put_three-in-Pins.ensures)
