use Rattle.lw_equal_top.proofs.telling.put_refusal.Goals as goal

pub returns-in-Memory : goal.returns-in-Memory
returns-in-Memory g c = rw c.in-Memory.is c.put.ensures
