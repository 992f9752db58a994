use Rattle.std.proofs.Common.{◌≡◌, slice_index_or, ap, sym, ◌∙◌, arith}
use Rattle.std.proofs.lemmas.Bool.{leb-true}
use Rattle.std.proofs.lemmas.Option.{same_Some, slice_get_within}
use Rattle.lw_curves.specs.declared.point.Point.{Point}
use Rattle.lw_choices.specs.Areas.{most_area}
use Rattle.lw_choices.proofs.Lists.{got}
use Rattle.lw_backtrace.proofs.second_look.is_cut.Goals as goal

pub returns : goal.returns
returns c = λ yes.
    let d : Point = record { time = record { 0 = 0 }; area = 0 } in
    let row = c.in-Some.points.now in
    let place = c.in-Some-last_by.place in
    let is = c.in-Some-last_by.ensures c.in-Some.ensures.rising in
    let lt = slice_get_within row place is.point is.at in
    let same : is.point ≡ slice_index_or row place d = same_Some is.point (slice_index_or row place d) (sym is.at ∙ got row place d lt) in
    let area = ap (λ (p : Point). p.area) same in
    record { row = row; at = c.in-Some.ensures.points; place = place; last = is; cut = let low = leb-true most_area (slice_index_or row place d).area yes in omega (arith, area, low) }
