use Rattle.std.proofs.Common.{◌∙◌, map, ap, get_or, arith}
use Rattle.std.proofs.lemmas.List.{length-map}
use Rattle.lw_net.specs.Signs.{asked}
use Rattle.lw_form.proofs.Rows.{has_some, has_none, has_past}
use Rattle.lw_form.proofs.row.Row.has.Goals as goal

pub returns-then-column-len : goal.returns-then-column-len
returns-then-column-len c = rw (← c.self.view_is) (has_past c.args.column c.args.sign (map asked c.self.inside.signs.items) (omega (arith, length-map c.self.inside.signs.items asked, c.len.ensures.value, c.if-column-len.true)))

pub returns-in-Some : goal.returns-in-Some
returns-in-Some c = rw (← c.self.view_is) (has_some c.args.column c.args.sign c.self.inside.signs.items c.ask.result c.in-Some.asked (omega (arith, length-map c.self.inside.signs.items asked, c.len.ensures.value, c.if-column-len.false)) (c.ask.ensures ∙ ap (λ l. asked (get_or l c.args.column 0)) c.deref.ensures) c.in-Some.is)

pub returns-in-None : goal.returns-in-None
returns-in-None c = rw (← c.self.view_is) (has_none c.args.column c.args.sign c.self.inside.signs.items c.ask.result (omega (arith, length-map c.self.inside.signs.items asked, c.len.ensures.value, c.if-column-len.false)) (c.ask.ensures ∙ ap (λ l. asked (get_or l c.args.column 0)) c.deref.ensures) c.in-None.is)
