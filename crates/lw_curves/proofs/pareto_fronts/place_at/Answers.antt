use Rattle.std.proofs.Common.{◌<◌, slice_index_or, length, arith}
use Rattle.lw_curves.specs.declared.point.Found.{Found}
use Rattle.lw_choices.proofs.Lists.{got}
use Rattle.lw_curves.proofs.Fronting.{none_before, last_before}
use Rattle.lw_curves.proofs.pareto_fronts.place_at.Goals as goal

pub returns-in_default : goal.returns-in_default
returns-in_default c = none_before c.args.links.now.classes c.args.points.now c.args.class.0 c.args.time.0 c.in_default.ensures

pub returns-then-points-place : goal.returns-then-points-place
returns-then-points-place c =
    let d : Found = record { time = record { 0 = 0 }; area = 0; order = 0; choice = 0; depth = 0; jump = 0 } in
    let points = c.args.points.now in
    let place = c.in-Some.place in
    let lt : place < length points = omega (arith, c.in-Some.ensures.0, c.requires.are.one_each) in
    record { last = c.in-Some.ensures; point = slice_index_or points place d; at = got points place d lt; time_is = c.if-points-place.true }

pub returns : goal.returns
returns c =
    let d : Found = record { time = record { 0 = 0 }; area = 0; order = 0; choice = 0; depth = 0; jump = 0 } in
    let points = c.args.points.now in
    let place = c.in-Some.place in
    let lt : place < length points = omega (arith, c.in-Some.ensures.0, c.requires.are.one_each) in
    last_before c.args.links.now.classes points c.args.class.0 c.args.time.0 place (slice_index_or points place d) c.requires.are.apart c.requires.late c.in-Some.ensures (got points place d lt) c.if-points-place.false
