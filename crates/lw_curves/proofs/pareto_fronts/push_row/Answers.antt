use Rattle.std.proofs.Common.{◌<◌, length, slice_index_or, sym, subst, arith}
use Rattle.std.proofs.lemmas.Option.{slice_get_within}
use Rattle.lw_curves.specs.declared.point.Found.{Found}
use Rattle.lw_choices.specs.Chains.{IsLast}
use Rattle.lw_choices.proofs.Lists.{got}
use Rattle.lw_choices.proofs.Linking.{place_measure, place_falls}
use Rattle.lw_curves.proofs.Grouped.{IsPutting, putting_first, putting_next, putting_over}
use Rattle.lw_curves.proofs.pareto_fronts.push_row.Goals as goal

pub loop-next-init : goal.loop-next-init
loop-next-init c = putting_first c.args.links.now.classes c.args.points.now c.args.class.0 c.args.to.now.items c.args.ways.now.items c.last-next.result c.last-next.ensures

pub bounds-points-place : goal.bounds-points-place
bounds-points-place c =
    let last = subst (λ o. IsLast c.args.links.now.classes c.args.class.0 c.loop-next.invariant.bound o) c.in-Some.is c.loop-next.invariant.last in
    let lt = slice_get_within c.args.links.now.classes c.in-Some.place c.args.class.0 last.1 in
    omega (arith, lt, c.requires.are.one_each)

pub before-next-requires : goal.before-next-requires
before-next-requires c =
    let last = subst (λ o. IsLast c.args.links.now.classes c.args.class.0 c.loop-next.invariant.bound o) c.in-Some.is c.loop-next.invariant.last in
    slice_get_within c.args.links.now.classes c.in-Some.place c.args.class.0 last.1

pub loop-next-smaller : goal.loop-next-smaller
loop-next-smaller c =
    let last = subst (λ o. IsLast c.args.links.now.classes c.args.class.0 c.loop-next.invariant.bound o) c.in-Some.is c.loop-next.invariant.last in
    subst (λ o. place_measure c.before-next.result < place_measure o) (sym c.in-Some.is) (place_falls c.args.links.now.classes c.args.class.0 c.in-Some.place c.before-next.result (c.before-next.ensures c.args.class.0 last.1))

pub loop-next-preserved : goal.loop-next-preserved
loop-next-preserved c =
    let d : Found = record { time = record { 0 = 0 }; area = 0; order = 0; choice = 0; depth = 0; jump = 0 } in
    let place = c.in-Some.place in
    let classes = c.args.links.now.classes in
    let points = c.args.points.now in
    let is = subst (λ o. IsPutting classes points c.args.class.0 c.args.to.now.items c.loop-next.to.items c.args.ways.now.items c.loop-next.ways.items o) c.in-Some.is c.loop-next.invariant in
    let lt = slice_get_within classes place c.args.class.0 is.last.1 in
    let in' : place < length points = omega (arith, lt, c.requires.are.one_each) in
    putting_next classes points c.args.class.0 c.args.to.now.items c.args.ways.now.items c.loop-next.to.items c.push.new.self.items c.loop-next.ways.items c.push-in-Some.new.self.items place (slice_index_or points place d) c.before-next.result c.requires.are.apart is (got points place d in') (c.before-next.ensures c.args.class.0 is.last.1) c.in_ok-push.ensures.items c.in_ok-push-2.ensures.items

pub returns : goal.returns
returns c =
    putting_over c.args.links.now.classes c.args.points.now c.args.class.0 c.args.to.now.items c.args.ways.now.items c.loop-next.to.items c.loop-next.ways.items (subst (λ o. IsPutting c.args.links.now.classes c.args.points.now c.args.class.0 c.args.to.now.items c.loop-next.to.items c.args.ways.now.items c.loop-next.ways.items o) c.in_default.is c.loop-next.invariant)
