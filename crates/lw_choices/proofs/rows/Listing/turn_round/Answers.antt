use Rattle.std.proofs.Common.{◌∙◌, ap, length, reverse, subst₂, sym}
use Rattle.lw_pool.specs.Numbers.{numbers}
use Rattle.lw_choices.specs.Kept.{AreKeptIn, kept_rows}
use Rattle.lw_choices.proofs.Keeping.{kept_turned, rows_turned}
use Rattle.lw_choices.proofs.rows.Listing.turn_round.Goals as goal

pub invariant_of-self : goal.invariant_of-self
invariant_of-self c =
    let pins = c.self.inside.pins.items in
    let rows = c.self.inside.rows.items in
    subst₂ (λ ps rs. AreKeptIn (length ps) rs) (sym c.shrink_to_fit-2.ensures.items) (sym (c.shrink_to_fit.ensures.items ∙ c.reverse.ensures.items)) (kept_turned (length pins) rows c.self.invariant)

pub returns : goal.returns
returns c =
    let pins = c.self.inside.pins.items in
    let rows = c.self.inside.rows.items in
    (λ j. kept_rows (c.shrink_to_fit-2.ensures.items j) ((c.shrink_to_fit.ensures.items ∙ c.reverse.ensures.items) j)) ∙ (rows_turned (numbers pins) rows ∙ ap reverse c.self.view_is)
