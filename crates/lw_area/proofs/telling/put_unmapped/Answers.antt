use Rattle.lw_area.proofs.telling.put_unmapped.Goals as goal

pub returns-in-Forms : goal.returns-in-Forms
returns-in-Forms g c = rw c.in-Forms.is c.put.ensures

pub returns-in-Splits : goal.returns-in-Splits
returns-in-Splits g c = rw c.in-Splits.is c.put-in-Splits.ensures

pub returns-in-Points : goal.returns-in-Points
returns-in-Points g c = rw c.in-Points.is c.put-in-Points.ensures

pub returns-in-NoCover : goal.returns-in-NoCover
returns-in-NoCover g c = rw c.in-NoCover.is (rw c.as_bytes.ensures.bytes at c.put_named.ensures)

pub returns-in-Memory : goal.returns-in-Memory
returns-in-Memory g c = rw c.in-Memory.is c.put-in-Memory.ensures
