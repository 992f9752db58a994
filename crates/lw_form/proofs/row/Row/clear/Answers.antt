use Rattle.std.proofs.Common.{map, arith}
use Rattle.std.proofs.lemmas.List.{length-map}
use Rattle.lw_net.specs.Signs.{asked}
use Rattle.lw_form.proofs.Rows.{cleared_now, cleared_past}
use Rattle.lw_form.proofs.row.Row.clear.Goals as goal

pub returns-then-column-len : goal.returns-then-column-len
returns-then-column-len c = rw (← c.self.view_is) (cleared_now c.args.column c.self.inside.signs.items c.deref_mut.result.now c.deref_mut.ensures.value)

pub returns-else-column-len : goal.returns-else-column-len
returns-else-column-len c = rw (← c.self.view_is) (cleared_past c.args.column (map asked c.self.inside.signs.items) (omega (arith, length-map c.self.inside.signs.items asked, c.len.ensures.value, c.if-column-len.false)))
