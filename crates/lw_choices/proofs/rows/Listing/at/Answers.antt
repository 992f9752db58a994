use Rattle.std.proofs.Common.{◌≡◌, ◌≤◌, ◌<◌, ◌∙◌, List, Some, ap, length, slice_get, sym, subst, arith}
use Rattle.std.proofs.lemmas.List.{length-map}
use Rattle.lw_pool.specs.Numbers.{numbers}
use Rattle.lw_choices.specs.Choices.{Choice, pin_count}
use Rattle.lw_choices.specs.Kept.{kept_part, kept_row, pin_end}
use Rattle.lw_choices.proofs.Keeping.{few_kept, row_kept}
use Rattle.lw_choices.proofs.Lists.{read_at}
use Rattle.lw_choices.proofs.rows.Listing.at.Goals as goal

pub index-row-requires : goal.index-row-requires
index-row-requires c =
    let rows = c.self.inside.rows.items in
    let lt = subst (λ (xs : List Choice). c.args.number < length xs) (sym c.self.view_is) c.requires in
    omega (arith, lt, length-map rows (kept_row (numbers c.self.inside.pins.items)))

pub stand_of-requires : goal.stand_of-requires
stand_of-requires c =
    let rows = c.self.inside.rows.items in
    let row = c.index-row.result.now in
    let lt = subst (λ (xs : List Choice). c.args.number < length xs) (sym c.self.view_is) c.requires in
    let at = read_at rows c.args.number row (omega (arith, lt, length-map rows (kept_row (numbers c.self.inside.pins.items)))) c.index-row.ensures in
    subst (λ (ps : List _). pin_end row.stand ≤ length ps) (sym c.deref.ensures.value) (c.self.invariant.each c.args.number row at).within

pub returns-clause-choice : goal.returns-clause-choice
returns-clause-choice c =
    let rows = c.self.inside.rows.items in
    let pins = c.self.inside.pins.items in
    let row = c.index-row.result.now in
    let lt = subst (λ (xs : List Choice). c.args.number < length xs) (sym c.self.view_is) c.requires in
    let at = read_at rows c.args.number row (omega (arith, lt, length-map rows (kept_row (numbers pins)))) c.index-row.ensures in
    let here = row_kept pins rows c.args.number row at in
    let same = ap (λ ps. kept_part (numbers ps) row.stand) (sym c.deref.ensures.value) ∙ sym c.stand_of.ensures in
    subst (λ (xs : List Choice). slice_get xs c.args.number ≡ Some (kept_row (numbers pins) row)) c.self.view_is here ∙ ap (λ part. Some (record { class = row.class.0; part = part })) same

pub returns-clause-few : goal.returns-clause-few
returns-clause-few c =
    let rows = c.self.inside.rows.items in
    let row = c.index-row.result.now in
    let lt = subst (λ (xs : List Choice). c.args.number < length xs) (sym c.self.view_is) c.requires in
    let at = read_at rows c.args.number row (omega (arith, lt, length-map rows (kept_row (numbers c.self.inside.pins.items)))) c.index-row.ensures in
    let few = few_kept (length c.self.inside.pins.items) (numbers c.deref.result.now) row.stand (c.self.invariant.each c.args.number row at) in
    subst (λ part. pin_count part ≤ 16) (sym c.stand_of.ensures) few
