use Rattle.std.proofs.Common.{◌∙◌, ◌++◌, ◌∷◌, ◌≤◌, [], ap, length, subst, sym, arith}
use Rattle.lw_choices.specs.declared.rows.KeptStand.TheVariants.{Input}
use Rattle.lw_choices.specs.declared.rows.Row.{Row}
use Rattle.lw_choices.specs.Kept.{AreKeptIn, input_at, kept_rows}
use Rattle.lw_choices.proofs.Keeping.{kept_in, row_pushed}
use Rattle.lw_choices.proofs.rows.Listing.push_input.Goals as goal

pub invariant_of-self-2 : goal.invariant_of-self-2
invariant_of-self-2 c =
    let n = length c.self.inside.pins.items in
    let r : Row = record { class = c.args.class; stand = Input c.args.input } in
    let none : 0 ≤ n = omega arith in
    let few : 0 ≤ 16 = omega arith in
    subst (AreKeptIn n) (sym c.in_ok-push.ensures.items) (kept_in n n c.self.inside.rows.items r (omega arith) (record { within = none; few = few }) c.self.invariant)

pub returns : goal.returns
returns c =
    let pins = c.self.inside.pins.items in
    let r : Row = record { class = c.args.class; stand = Input c.args.input } in
    ap (kept_rows pins) c.in_ok-push.ensures.items ∙ (row_pushed pins c.self.inside.rows.items r ∙ ap (λ xs. xs ++ input_at c.args.class c.args.input ∷ []) c.self.view_is)
