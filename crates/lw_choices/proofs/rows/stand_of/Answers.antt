use Rattle.std.proofs.Common.{◌≤◌, ◌+◌, ap, length, subst, sym, ◌∙◌}
use Rattle.lw_pool.specs.Numbers.{numbers}
use Rattle.lw_choices.specs.Choices.Part.{gate}
use Rattle.lw_choices.specs.Kept.{kept_part, pin_end}
use Rattle.lw_choices.proofs.Keeping.{numbers_part}
use Rattle.lw_choices.proofs.rows.stand_of.Goals as goal

pub returns-in-Input : goal.returns-in-Input
returns-in-Input c = ap (kept_part (numbers c.args.pins.now)) (sym c.in-Input.is)

pub pins_of-requires : goal.pins_of-requires
pins_of-requires c = subst (λ s. pin_end s ≤ length c.args.pins.now) c.in-Gate.is c.requires

pub returns-in-Gate : goal.returns-in-Gate
returns-in-Gate c =
    let it = c.in-Gate.gate in
    ap (gate it.cell.0) (ap numbers c.pins_of.ensures ∙ numbers_part c.args.pins.now it.first (it.first + it.count)) ∙ ap (kept_part (numbers c.args.pins.now)) (sym c.in-Gate.is)
