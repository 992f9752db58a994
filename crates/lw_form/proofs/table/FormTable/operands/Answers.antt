use Rattle.std.proofs.Common.{◌≡◌, ◌-◌, ◌<◌, arith, subst, ◌∙◌, sym, ap, Some, slice_get, get_or, refl, length}
use Rattle.std.proofs.lemmas.Option.{slice_get_read}
use Rattle.lw_form.specs.Tables.{Table, made}
use Rattle.lw_form.proofs.Tables.{simple_kind, and_at, key_below, forms_count}
use Rattle.lw_form.proofs.table.FormTable.operands.Goals as goal

pub returns-then-b-self-clause-simple : goal.returns-then-b-self-clause-simple
returns-then-b-self-clause-simple c = rw (← c.self.view_is) (simple_kind (record { inputs = c.self.inside.inputs; keys = c.self.inside.ands.keys }) c.args.b (let l = c.if-b-self.true in omega arith))

pub bounds-ands-b : goal.bounds-ands-b
bounds-ands-b c =
    let t : Table = record { inputs = c.self.inside.inputs; keys = c.self.inside.ands.keys } in
    let lt : c.args.b < length (made t) = subst (λ (u : Table). c.args.b < length (made u)) (sym c.self.view_is) c.requires in
    let n = forms_count t.inputs t.keys in
    let e = ap length c.as_slice-ands.ensures.keys in
    let past = c.if-b-self.false in
    omega arith

key : (c : goal.After-index-ands-b) → slice_get c.self.inside.ands.keys (c.args.b - c.self.inside.inputs - 1) ≡ Some c.index-ands-b.result
key c =
    let ands = c.as_slice-ands.ensures.keys in
    let t : Table = record { inputs = c.self.inside.inputs; keys = c.self.inside.ands.keys } in
    let lt : c.args.b < length (made t) = subst (λ (u : Table). c.args.b < length (made u)) (sym c.self.view_is) c.requires in
    let n = forms_count t.inputs t.keys in
    let past = c.if-b-self.false in
    slice_get_read c.self.inside.ands.keys (length c.self.inside.ands.keys) (c.args.b - c.self.inside.inputs - 1) c.index-ands-b.result refl (omega arith) (c.index-ands-b.is ∙ ap (λ l. get_or l (c.args.b - c.self.inside.inputs - 1) c.index-ands-b.result) ands)

pub returns-clause-spelled : goal.returns-clause-spelled
returns-clause-spelled c = rw (← c.self.view_is) (record {
  and_is = and_at (record { inputs = c.self.inside.inputs; keys = c.self.inside.ands.keys }) c.args.b c.index-ands-b.result c.self.invariant c.if-b-self.false (key c);
  below = key_below (record { inputs = c.self.inside.inputs; keys = c.self.inside.ands.keys }) c.self.invariant (c.args.b - c.self.inside.inputs - 1) c.index-ands-b.result (key c);
})
