use Rattle.lw_io.proofs.Putting.{Writes-both}
use Rattle.lw_equal_top.proofs.telling.put_comparison.Goals as goal

pub returns-then-comparison : goal.returns-then-comparison
returns-then-comparison g c = rw (c.in-Answered.is, c.if-comparison.true) (Writes-both c.put-then-comparison.ensures (Writes-both c.put_counts.ensures c.put-then-comparison-2.ensures))

pub returns-in-WriteFault : goal.returns-in-WriteFault
returns-in-WriteFault g c = rw c.in-WriteFault.is c.put-in-WriteFault.ensures

pub returns-in-Refused : goal.returns-in-Refused
returns-in-Refused g c = rw c.in-Refused.is (Writes-both c.put-in-Refused.ensures (Writes-both c.put_refusal.ensures c.put-in-Refused-2.ensures))
