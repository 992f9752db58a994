use Rattle.std.proofs.Common.{◌≡◌, ◌<◌, length, None, slice_get, subst, arith}
use Rattle.lw_curves.specs.CurveTables.{CurveLists}
use Rattle.lw_curves.proofs.Grouped.{lefts_out, no_row}
use Rattle.lw_curves.proofs.curve_table.Curves.get.Goals as goal

pub returns-then-class-len : goal.returns-then-class-len
returns-then-class-len c =
    let none = no_row c.self.inside.points.items c.self.inside.lefts.items c.args.class.0 (omega (arith, c.if-class-len.true, c.len.ensures)) in
    subst (λ (curves : CurveLists). slice_get curves.points c.args.class.0 ≡ None) c.self.view_is none

pub of-requires : goal.of-requires
of-requires c =
    let lt = lefts_out c.self.inside.points.items c.self.inside.lefts.items c.args.class.0 (omega (arith, c.if-class-len.false, c.len.ensures)) in
    subst (λ (curves : CurveLists). c.args.class.0 < length curves.points) c.self.view_is lt

pub returns : goal.returns
returns c = record { points = c.of.ensures.points; rising = c.of.ensures.rising }
