use Rattle.std.proofs.Common.{arith}
use Rattle.lw_form.proofs.Tables.{forms_count}
use Rattle.lw_form.proofs.table.FormTable.len.Goals as goal

pub returns : goal.returns
returns c =
    rw (← c.self.view_is) (record {
      len = let e = forms_count c.self.inside.inputs c.self.inside.ands.keys in let l = c.len.ensures.len in omega arith;
      made = c.self.invariant.are;
    })
