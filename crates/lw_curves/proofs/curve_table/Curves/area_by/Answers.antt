use Rattle.std.proofs.Common.{slice_index_or, sym, subst}
use Rattle.std.proofs.lemmas.Option.{slice_get_within}
use Rattle.lw_curves.specs.declared.point.Point.{Point}
use Rattle.lw_choices.specs.Tasks.{IsLeastAreaBy}
use Rattle.lw_curves.proofs.Deadlines.{last_least, none_least}
use Rattle.lw_choices.proofs.Lists.{got}
use Rattle.lw_curves.proofs.curve_table.Curves.area_by.Goals as goal

pub returns : goal.returns
returns c s horizon are bound within =
    let d : Point = record { time = record { 0 = 0 }; area = 0 } in
    let row = c.of-points.result.now in
    let place = c.in_ok-place.place in
    let is = c.in_ok-place.ensures c.of-points.ensures.rising in
    let lt = slice_get_within row place is.point is.at in
    last_least s horizon c.args.self.now.points are bound c.args.class.0 c.args.time.0 row c.of-points.ensures.points within place (slice_index_or row place d) is (got row place d lt) c.of-points.ensures.rising

pub returns-in_err-place : goal.returns-in_err-place
returns-in_err-place c s horizon are bound within =
    subst (IsLeastAreaBy s c.args.class.0 c.args.time.0) (sym c.from_residual.ensures) (none_least s horizon c.args.self.now.points are bound c.args.class.0 c.args.time.0 c.of-points.result.now c.of-points.ensures.points within (c.in_err-place.ensures c.of-points.ensures.rising))
