use Rattle.lw_top.proofs.reasons.put_reason.Goals as goal

pub returns-in-Ports : goal.returns-in-Ports
returns-in-Ports g c = rw c.in-Ports.is c.put.ensures

pub returns-in-Class : goal.returns-in-Class
returns-in-Class g c = rw c.in-Class.is (rw c.from.ensures at c.put_count.ensures)

pub returns-in-NotMatch : goal.returns-in-NotMatch
returns-in-NotMatch g c = rw c.in-NotMatch.is (rw c.as_bytes.ensures.bytes at c.put_three.ensures)

pub returns-in-Label : goal.returns-in-Label
returns-in-Label g c = rw c.in-Label.is c.put_label_reason.ensures

pub returns-in-Root : goal.returns-in-Root
returns-in-Root g c = rw c.in-Root.is c.put_root_reason.ensures

pub returns-in-Value : goal.returns-in-Value
returns-in-Value g c = rw c.in-Value.is c.put_value_reason.ensures
