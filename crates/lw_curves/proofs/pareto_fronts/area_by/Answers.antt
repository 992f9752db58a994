use Rattle.std.proofs.Common.{◌≡◌, ◌<◌, ◌∙◌, Some, ap, slice_index_or, length, sym, subst, arith}
use Rattle.std.proofs.lemmas.Option.{slice_get_within}
use Rattle.lw_curves.specs.declared.point.Found.{Found}
use Rattle.lw_curves.specs.Fronts.{IsLeastSpot, spots_of}
use Rattle.lw_choices.proofs.Lists.{got}
use Rattle.lw_curves.proofs.Fronting.{seek_first, seek_none, seek_next, seek_jump, seek_over, seek_found}
use Rattle.lw_curves.proofs.pareto_fronts.area_by.Goals as goal

pub returns-in_err-place : goal.returns-in_err-place
returns-in_err-place c = subst (IsLeastSpot (spots_of c.args.links.now.classes c.args.points.now) c.args.class.0 c.args.time) (sym c.from_residual.ensures) (seek_none c.args.links.now.classes c.args.points.now c.args.class.0 c.args.time c.in_err-place.ensures)

pub loop-place-init : goal.loop-place-init
loop-place-init c = seek_first c.args.links.now.classes c.args.points.now c.args.class.0 c.args.time c.in_ok-place.place c.in_ok-place.ensures

pub bounds-points-place : goal.bounds-points-place
bounds-points-place c = let h = slice_get_within c.args.links.now.classes c.loop-place.place c.args.class.0 c.loop-place.invariant.at in omega (arith, h, c.requires.are.one_each)

pub bounds-points-place-2 : goal.bounds-points-place-2
bounds-points-place-2 c = let h = slice_get_within c.args.links.now.classes c.loop-place.place c.args.class.0 c.loop-place.invariant.at in omega (arith, h, c.requires.are.one_each)

pub returns-in_err-place-2 : goal.returns-in_err-place-2
returns-in_err-place-2 c =
    let d : Found = record { time = record { 0 = 0 }; area = 0; order = 0; choice = 0; depth = 0; jump = 0 } in
    let h = slice_get_within c.args.links.now.classes c.loop-place.place c.args.class.0 c.loop-place.invariant.at in
    let lt : c.loop-place.place < length c.args.points.now = omega (arith, h, c.requires.are.one_each) in
    subst (IsLeastSpot (spots_of c.args.links.now.classes c.args.points.now) c.args.class.0 c.args.time) (sym c.from_residual-in_err-place-2.ensures) (seek_over c.args.links.now.classes c.args.points.now c.args.class.0 c.args.time c.loop-place.place (slice_index_or c.args.points.now c.loop-place.place d) c.loop-place.invariant (got c.args.points.now c.loop-place.place d lt) c.loop-place-test.true (c.in_err-place-2.ensures c.args.class.0 c.loop-place.invariant.at))

pub loop-place-smaller : goal.loop-place-smaller
loop-place-smaller c = (c.in_ok-place-2.ensures c.args.class.0 c.loop-place.invariant.at).0

pub loop-place-preserved : goal.loop-place-preserved
loop-place-preserved c =
    let d : Found = record { time = record { 0 = 0 }; area = 0; order = 0; choice = 0; depth = 0; jump = 0 } in
    let h = slice_get_within c.args.links.now.classes c.loop-place.place c.args.class.0 c.loop-place.invariant.at in
    let lt : c.loop-place.place < length c.args.points.now = omega (arith, h, c.requires.are.one_each) in
    seek_next c.args.links.now.classes c.args.points.now c.args.class.0 c.args.time c.loop-place.place c.in_ok-place-2.place (slice_index_or c.args.points.now c.loop-place.place d) c.loop-place.invariant (got c.args.points.now c.loop-place.place d lt) c.loop-place-test.true (c.in_ok-place-2.ensures c.args.class.0 c.loop-place.invariant.at)

pub returns : goal.returns
returns c =
    let d : Found = record { time = record { 0 = 0 }; area = 0; order = 0; choice = 0; depth = 0; jump = 0 } in
    let h = slice_get_within c.args.links.now.classes c.loop-place.place c.args.class.0 c.loop-place.invariant.at in
    let lt : c.loop-place.place < length c.args.points.now = omega (arith, h, c.requires.are.one_each) in
    seek_found c.args.links.now.classes c.args.points.now c.args.class.0 c.args.time c.loop-place.place (slice_index_or c.args.points.now c.loop-place.place d) c.requires.are.apart c.loop-place.invariant (got c.args.points.now c.loop-place.place d lt) c.loop-place-test.false

pub loop-place-preserved-then-points-jump : goal.loop-place-preserved-then-points-jump
loop-place-preserved-then-points-jump c =
    let d : Found = record { time = record { 0 = 0 }; area = 0; order = 0; choice = 0; depth = 0; jump = 0 } in
    let j = (slice_index_or c.args.points.now c.loop-place.place d).jump in
    let h = slice_get_within c.args.links.now.classes c.loop-place.place c.args.class.0 c.loop-place.invariant.at in
    let lt : j < length c.args.points.now = omega (arith, c.if-jump-place.true, h, c.requires.are.one_each) in
    let same : c.class.result.0 ≡ c.args.class.0 = omega (arith, c.if-class.true) in
    seek_jump c.args.links.now.classes c.args.points.now c.args.class.0 c.args.time j (slice_index_or c.args.points.now j d) c.requires.are.apart (c.class.ensures.class ∙ ap Some same) (got c.args.points.now j d lt) c.if-points-jump.true
