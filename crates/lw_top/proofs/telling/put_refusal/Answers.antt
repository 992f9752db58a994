use Rattle.lw_top.proofs.telling.put_refusal.Goals as goal

pub returns-in-Words : goal.returns-in-Words
returns-in-Words g c = rw c.in-Words.is c.put.ensures

pub returns-in-Faulty : goal.returns-in-Faulty
returns-in-Faulty g c = rw c.in-Faulty.is (rw c.file_word.ensures at c.put_fault.ensures)

pub returns-in-Verilog : goal.returns-in-Verilog
returns-in-Verilog g c = rw c.in-Verilog.is (rw c.verilog_kind_text.ensures at (rw c.file_word-in-Verilog.ensures at c.put_broken.ensures))

pub returns-in-Vector : goal.returns-in-Vector
returns-in-Vector g c = rw c.in-Vector.is (rw c.file_word-in-Vector.ensures at c.put_broken-in-Vector.ensures)

pub returns-in-Forms : goal.returns-in-Forms
returns-in-Forms g c = rw c.in-Forms.is c.put-in-Forms.ensures

pub returns-in-Splits : goal.returns-in-Splits
returns-in-Splits g c = rw c.in-Splits.is c.put-in-Splits.ensures

pub returns-in-NoCover : goal.returns-in-NoCover
returns-in-NoCover g c = rw c.in-NoCover.is (rw c.as_bytes.ensures.bytes at c.put_two.ensures)

pub returns-in-Points : goal.returns-in-Points
returns-in-Points g c = rw c.in-Points.is c.put-in-Points.ensures

pub returns-in-No : goal.returns-in-No
returns-in-No g c = rw c.in-No.is c.put_no.ensures

pub returns-in-NoVerilog : goal.returns-in-NoVerilog
returns-in-NoVerilog g c = rw c.in-NoVerilog.is c.put_unsaid.ensures

pub returns-in-Memory : goal.returns-in-Memory
returns-in-Memory g c = rw c.in-Memory.is c.put-in-Memory.ensures
