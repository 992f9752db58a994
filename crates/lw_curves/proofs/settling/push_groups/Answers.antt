use Rattle.std.proofs.Common.{◌<◌, length, sym, subst, arith}
use Rattle.std.proofs.lemmas.Option.{slice_get_within}
use Rattle.lw_choices.specs.Chains.{IsLast}
use Rattle.lw_choices.proofs.Lists.{get_some}
use Rattle.lw_curves.proofs.Adding.{IsAdding, adding_first, adding_next, adding_over}
use Rattle.lw_choices.proofs.Linking.{place_measure, place_falls}
use Rattle.lw_curves.proofs.settling.push_groups.Goals as goal

pub loop-next-init : goal.loop-next-init
loop-next-init c = adding_first c.args.pin_groups.now.links.classes c.args.pin_groups.now.delays.items c.args.class.0 c.args.gain.time c.args.to.now c.last-next.result c.requires.are.one_each c.last-next.ensures

pub push_after-requires-clause-group : goal.push_after-requires-clause-group
push_after-requires-clause-group c =
    let last = subst (λ o. IsLast c.args.pin_groups.now.links.classes c.args.class.0 c.loop-next.invariant.bound o) c.in-Some.is c.loop-next.invariant.last in
    let lt = slice_get_within c.args.pin_groups.now.links.classes c.in-Some.group c.args.class.0 last.1 in
    omega (arith, lt, c.requires.are.one_each)

pub before-next-requires : goal.before-next-requires
before-next-requires c =
    let last = subst (λ o. IsLast c.args.pin_groups.now.links.classes c.args.class.0 c.loop-next.invariant.bound o) c.in-Some.is c.loop-next.invariant.last in
    slice_get_within c.args.pin_groups.now.links.classes c.in-Some.group c.args.class.0 last.1

pub loop-next-smaller : goal.loop-next-smaller
loop-next-smaller c =
    let is = subst (λ o. IsAdding c.args.pin_groups.now.links.classes c.args.pin_groups.now.delays.items c.args.class.0 c.args.gain.time c.args.to.now c.loop-next.to o) c.in-Some.is c.loop-next.invariant in
    subst (λ o. place_measure c.before-next.result < place_measure o) (sym c.in-Some.is) (place_falls c.args.pin_groups.now.links.classes c.args.class.0 c.in-Some.group c.before-next.result (c.before-next.ensures c.args.class.0 is.last.1))

pub loop-next-preserved : goal.loop-next-preserved
loop-next-preserved c =
    let place = c.in-Some.group in
    let classes = c.args.pin_groups.now.links.classes in
    let delays = c.args.pin_groups.now.delays.items in
    let is = subst (λ o. IsAdding classes delays c.args.class.0 c.args.gain.time c.args.to.now c.loop-next.to o) c.in-Some.is c.loop-next.invariant in
    let lt = slice_get_within classes place c.args.class.0 is.last.1 in
    let in' : place < length delays = omega (arith, lt, c.requires.are.one_each) in
    let (delay, dt) = get_some delays place in' in
    adding_next classes delays c.args.class.0 c.args.gain.time c.args.to.now c.loop-next.to c.push_after.new.to place delay c.before-next.result is dt (c.before-next.ensures c.args.class.0 is.last.1) (c.in_ok-push_after.ensures.due delay dt)

pub returns-clause-added : goal.returns-clause-added
returns-clause-added c =
    let is = subst (λ o. IsAdding c.args.pin_groups.now.links.classes c.args.pin_groups.now.delays.items c.args.class.0 c.args.gain.time c.args.to.now c.loop-next.to o) c.in_default.is c.loop-next.invariant in
    adding_over c.args.pin_groups.now.links.classes c.args.pin_groups.now.delays.items c.args.class.0 c.args.gain.time c.args.to.now c.loop-next.to c.requires.are.one_each is
