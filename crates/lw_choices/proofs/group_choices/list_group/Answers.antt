use Rattle.std.proofs.Common.{◌<◌, length, sym, subst, arith}
use Rattle.std.proofs.lemmas.Option.{slice_get_within}
use Rattle.lw_choices.specs.Chains.{IsLast}
use Rattle.lw_choices.proofs.Linking.{place_falls, place_measure}
use Rattle.lw_choices.proofs.Members.{AreAdding, adding_first, adding_next, adding_over}
use Rattle.lw_choices.proofs.group_choices.list_group.Goals as goal

pub loop-next-preserved : goal.loop-next-preserved
loop-next-preserved c =
    let groups = c.args.pins.now.classes in
    let owners = c.args.owners.now in
    let group = c.args.group in
    let place = c.in-Some.place in
    let (bound, last, are) = c.loop-next.invariant in
    let last' = subst (λ o. IsLast groups group bound o) c.in-Some.is last in
    let next = adding_next groups owners group c.args.to.now.items c.loop-next.to.items bound place last' are in
    (place, c.before-next.ensures group last'.1, subst (AreAdding groups owners group place c.args.to.now.items) (sym c.in_ok-push.ensures.items) next)

pub bounds-owners-place : goal.bounds-owners-place
bounds-owners-place c =
    let groups = c.args.pins.now.classes in
    let (bound, last, are) = c.loop-next.invariant in
    let last' = subst (λ o. IsLast groups c.args.group bound o) c.in-Some.is last in
    let h = slice_get_within groups c.in-Some.place c.args.group last'.1 in
    omega (arith, h, c.requires.one_each)

pub before-next-requires : goal.before-next-requires
before-next-requires c =
    let groups = c.args.pins.now.classes in
    let (bound, last, are) = c.loop-next.invariant in
    let last' = subst (λ o. IsLast groups c.args.group bound o) c.in-Some.is last in
    slice_get_within groups c.in-Some.place c.args.group last'.1

pub loop-next-smaller : goal.loop-next-smaller
loop-next-smaller c =
    let groups = c.args.pins.now.classes in
    let (bound, last, are) = c.loop-next.invariant in
    let last' = subst (λ o. IsLast groups c.args.group bound o) c.in-Some.is last in
    let falls = place_falls groups c.args.group c.in-Some.place c.before-next.result (c.before-next.ensures c.args.group last'.1) in
    subst (λ o. place_measure c.before-next.result < place_measure o) (sym c.in-Some.is) falls

pub loop-next-init : goal.loop-next-init
loop-next-init c =
    let groups = c.args.pins.now.classes in
    (length groups, c.last-next.ensures, adding_first groups c.args.owners.now c.args.group c.args.to.now.items)

pub returns : goal.returns
returns c =
    let groups = c.args.pins.now.classes in
    let (bound, last, are) = c.loop-next.invariant in
    adding_over groups c.args.owners.now c.args.group c.args.to.now.items c.loop-next.to.items bound (subst (λ o. IsLast groups c.args.group bound o) c.in_default.is last) are
