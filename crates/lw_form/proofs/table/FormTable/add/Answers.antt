use Rattle.std.proofs.Common.{◌<◌, ◌^◌, sym, arith, length, subst}
use Rattle.lw_form.specs.Tables.{Table, made, AreBelow}
use Rattle.lw_form.proofs.Tables.{IsAdded, added}
use Rattle.lw_form.proofs.table.FormTable.add.Goals as goal

facts : (c : goal.In_ok-place) → IsAdded (record { inputs = c.self.inside.inputs; keys = c.self.inside.ands.keys }) c.insert_full.new.self.keys c.args.ids c.in_ok-place.place
facts c =
    let t : Table = record { inputs = c.self.inside.inputs; keys = c.self.inside.ands.keys } in
    let few : length (made c.args.self.now) < 2 ^ 31 = let l = c.len.ensures.len in let lt = c.if-len-ge-MOST_FORMS.false in omega arith in
    let below : AreBelow (length (made t)) c.args.ids = subst (λ (u : Table). AreBelow (length (made u)) c.args.ids) (sym c.self.view_is) c.requires in
    let lt : length (made t) < 2 ^ 31 = subst (λ (u : Table). length (made u) < 2 ^ 31) (sym c.self.view_is) few in
    added t c.insert_full.new.self.keys c.args.ids c.in_ok-place.place c.self.invariant below (λ le. absurd (omega arith)) c.in_ok-place.ensures.keys c.in_ok-place.ensures.stored

pub invariant_of-self-2 : goal.invariant_of-self-2
invariant_of-self-2 c = (facts c).table

pub overflow_add-result : goal.overflow_add-result
overflow_add-result c = let f = (facts c).fits in omega arith

pub overflow_cast-result : goal.overflow_cast-result
overflow_cast-result c = let f = (facts c).fits in omega arith

pub overflow_add-result-2 : goal.overflow_add-result-2
overflow_add-result-2 c = let f = (facts c).fits in omega arith

pub returns-clause-made : goal.returns-clause-made
returns-clause-made c = rw (← c.self.view_is) ((facts c).made_is)

pub returns-clause-place : goal.returns-clause-place
returns-clause-place c = rw (← c.self.view_is) ((facts c).at)
