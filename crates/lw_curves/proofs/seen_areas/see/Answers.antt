use Rattle.std.proofs.Common.{◌∙◌, ◌-◌, ◌<◌, length, length-set, slice_set, sym, subst, arith}
use Rattle.std.proofs.lemmas.List.{with_items_is}
use Rattle.lw_curves.specs.Tallies.{AreTallies}
use Rattle.lw_curves.proofs.Falling.{fallen_set}
use Rattle.lw_choices.proofs.Lists.{read_at}
use Rattle.lw_curves.proofs.SeenPoints.{seeing_early, seeing_less, seeing_none, seeing_same}
use Rattle.lw_curves.proofs.seen_areas.see.Goals as goal

pub index-delay-requires : goal.index-delay-requires
index-delay-requires c =
    let are = c.requires.are in
    omega (arith, c.requires.group_low, are.one_each, are.count)

pub returns-then-delay-time-clause-seeing : goal.returns-then-delay-time-clause-seeing
returns-then-delay-time-clause-seeing c =
    let u = c.args.pin_groups.now in
    let are = c.requires.are in
    let lt : c.args.group < length u.delays.items = omega (arith, c.requires.group_low, are.one_each, are.count) in
    seeing_early u c.args.fronts.now.spots c.args.seen.now.areas.items c.args.group c.args.time c.index-delay.result.now (read_at u.delays.items c.args.group c.index-delay.result.now lt c.index-delay.ensures) c.if-delay-time.true

pub returns-then-delay-time-clause-tallied : goal.returns-then-delay-time-clause-tallied
returns-then-delay-time-clause-tallied c cells xs us are = are

pub class-class-requires : goal.class-class-requires
class-class-requires c =
    let are = c.requires.are in
    omega (arith, c.requires.group_low, are.count)

pub returns-in_default-clause-seeing : goal.returns-in_default-clause-seeing
returns-in_default-clause-seeing c =
    let u = c.args.pin_groups.now in
    let are = c.requires.are in
    let lt : c.args.group < length u.delays.items = omega (arith, c.requires.group_low, are.one_each, are.count) in
    seeing_none u c.args.fronts.now.spots c.args.seen.now.areas.items c.args.group c.args.time c.index-delay.result.now (read_at u.delays.items c.args.group c.index-delay.result.now lt c.index-delay.ensures) c.class-class.result.0 c.class-class.ensures.class (omega (arith, c.if-delay-time.false)) c.in_default.ensures

pub returns-in_default-clause-tallied : goal.returns-in_default-clause-tallied
returns-in_default-clause-tallied c cells xs us are = are

pub returns-then-new-old-clause-seeing : goal.returns-then-new-old-clause-seeing
returns-then-new-old-clause-seeing c =
    let u = c.args.pin_groups.now in
    let g = c.args.group in
    let seen = c.args.seen.now.areas.items in
    let are = c.requires.are in
    let lt : g < length u.delays.items = omega (arith, c.requires.group_low, are.one_each, are.count) in
    let lt' : g < length seen = omega (arith, c.requires.group_low, c.requires.one_each) in
    seeing_same u c.args.fronts.now.spots seen g c.args.time c.index-delay.result.now c.class-class.result.0 c.in-Some.area c.index.result.now c.if-delay-time.false (read_at u.delays.items g c.index-delay.result.now lt c.index-delay.ensures) c.class-class.ensures.class c.in-Some.ensures (read_at seen g c.index.result.now lt' c.index.ensures) (omega (arith, c.min.ensures, c.if-new-old.true))

pub returns-then-new-old-clause-tallied : goal.returns-then-new-old-clause-tallied
returns-then-new-old-clause-tallied c cells xs us are = are

pub returns-clause-seeing : goal.returns-clause-seeing
returns-clause-seeing c =
    let u = c.args.pin_groups.now in
    let g = c.args.group in
    let seen = c.args.seen.now.areas.items in
    let are = c.requires.are in
    let lt : g < length u.delays.items = omega (arith, c.requires.group_low, are.one_each, are.count) in
    let lt' : g < length seen = omega (arith, c.requires.group_low, c.requires.one_each) in
    seeing_less u c.args.fronts.now.spots seen g c.args.time c.index-delay.result.now c.class-class.result.0 c.in-Some.area c.index.result.now c.if-delay-time.false (read_at u.delays.items g c.index-delay.result.now lt c.index-delay.ensures) c.class-class.ensures.class c.in-Some.ensures (read_at seen g c.index.result.now lt' c.index.ensures) c.min.result (omega (arith, c.min.ensures)) (omega (arith, c.if-new-old.false))

pub returns-clause-tallied : goal.returns-clause-tallied
returns-clause-tallied c cells xs us tallied =
    let u = c.args.pin_groups.now in
    let g = c.args.group in
    let seen = c.args.seen.now.areas.items in
    let new = slice_set seen g c.min.result in
    let lt : g < length seen = omega (arith, c.requires.group_low, c.requires.one_each) in
    let fallen = fallen_set seen g c.index.result.now c.min.result (c.index.result.now - c.min.result) (read_at seen g c.index.result.now lt c.index.ensures) (omega arith) in
    let kept = with_items_is c.args.seen.now.tallies c.lower_tallies.new.tallies (omega (arith, c.lower_tallies.auto.tallies, c.deref_mut.ensures.len)) in
    let before = subst (AreTallies cells xs u seen) (sym c.deref_mut.ensures.value) tallied.tallies in
    record {
      one_each = length-set seen g c.min.result ∙ tallied.one_each;
      tallies = subst (AreTallies cells xs u new) (sym kept) (c.lower_tallies.ensures cells xs seen new us fallen before);
    }
