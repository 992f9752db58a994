use Rattle.std.proofs.Common.{arith}
use Rattle.std.proofs.lemmas.List.{nil_from_length}
use Rattle.lw_form.proofs.Tables.{new_table}
use Rattle.lw_form.proofs.table.FormTable.with_capacity.Goals as goal

pub invariant_of-result : goal.invariant_of-result
invariant_of-result c = new_table c.args.inputs c.in_ok-ands.ands.keys (nil_from_length c.in_ok-ands.ands.keys c.in_ok-ands.ensures.len) (let l = c.requires in omega arith)
