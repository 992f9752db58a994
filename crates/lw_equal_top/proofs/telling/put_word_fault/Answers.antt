use Rattle.lw_equal_top.proofs.telling.put_word_fault.Goals as goal

pub returns-in-Few : goal.returns-in-Few
returns-in-Few g c = rw c.in-Few.is c.put.ensures

pub returns-in-Dashed : goal.returns-in-Dashed
returns-in-Dashed g c = rw c.in-Dashed.is (rw c.as_bytes.ensures.value at c.put_named.ensures)

pub returns-in-Numeral : goal.returns-in-Numeral
returns-in-Numeral g c = rw c.in-Numeral.is (rw c.as_bytes-in-Numeral.ensures.value at c.put_named-in-Numeral.ensures)
