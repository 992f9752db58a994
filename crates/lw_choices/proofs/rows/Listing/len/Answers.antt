use Rattle.std.proofs.Common.{ap, length, arith}
use Rattle.std.proofs.lemmas.List.{length-map}
use Rattle.lw_pool.specs.Numbers.{numbers}
use Rattle.lw_choices.specs.Kept.{kept_row}
use Rattle.lw_choices.proofs.rows.Listing.len.Goals as goal

pub returns : goal.returns
returns c =
    let size = length-map c.self.inside.rows.items (kept_row (numbers c.self.inside.pins.items)) in
    let same = ap length c.self.view_is in
    omega (arith, c.len.ensures, size, same)
