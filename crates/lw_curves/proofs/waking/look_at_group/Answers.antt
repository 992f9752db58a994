use Rattle.std.proofs.Common.{◌∙◌, ◌+◌, ◌<◌, ◌≤◌, length, refl, arith}
use Rattle.lw_choices.specs.Tasks.{task}
use Rattle.lw_curves.specs.SeenAreas.{HasUnseen}
use Rattle.lw_choices.proofs.Lists.{read_at}
use Rattle.lw_curves.proofs.LookedAt.{looking_first, looking_next, looking_over}
use Rattle.lw_choices.proofs.Members.{listed_low}
use Rattle.lw_curves.proofs.waking.look_at_group.Goals as goal

pub index-first-requires : goal.index-first-requires
index-first-requires c = omega (arith, c.requires.ready.group_low, c.requires.ready.by_group.2.one_more)

pub index-end-requires : goal.index-end-requires
index-end-requires c = omega (arith, c.requires.ready.group_low, c.requires.ready.by_group.2.one_more)

pub loop-place-init : goal.loop-place-init
loop-place-init c = record {
  horizon = refl;
  looking = λ g pats ts us. looking_first (task g pats c.args.at.now.setup.now.lib.now ts) c.args.at.now.setup.now.rows.now c.args.at.now.fronts.now.spots (HasUnseen c.args.at.now.setup.now.pin_groups.now c.args.at.now.seen.now.areas.items c.args.at.now.fronts.now.spots c.args.time) c.args.at.now.setup.now.pin_groups.now.by_group.numbers.items c.index-first.result.now c.args.queue.now c.args.time;
}

pub index-number-requires : goal.index-number-requires
index-number-requires c =
    let starts = c.args.at.now.setup.now.pin_groups.now.by_group.starts.items in
    let next : c.args.group + 1 < length starts = omega (arith, c.requires.ready.group_low, c.requires.ready.by_group.2.one_more) in
    let end = c.index-end.result.now in
    let et = read_at starts (c.args.group + 1) end next c.index-end.ensures in
    let low = listed_low c.args.at.now.setup.now.pin_groups.now.members.classes c.args.at.now.setup.now.pin_groups.now.owners.items c.args.at.now.setup.now.pin_groups.now.members.count starts c.args.at.now.setup.now.pin_groups.now.by_group.numbers.items c.requires.ready.by_group (c.args.group + 1) end et in
    omega (arith, low, c.loop-place-test.true)

pub loop-place-preserved : goal.loop-place-preserved
loop-place-preserved c =
    let starts = c.args.at.now.setup.now.pin_groups.now.by_group.starts.items in
    let numbers = c.args.at.now.setup.now.pin_groups.now.by_group.numbers.items in
    let next : c.args.group + 1 < length starts = omega (arith, c.requires.ready.group_low, c.requires.ready.by_group.2.one_more) in
    let end = c.index-end.result.now in
    let et = read_at starts (c.args.group + 1) end next c.index-end.ensures in
    let low = listed_low c.args.at.now.setup.now.pin_groups.now.members.classes c.args.at.now.setup.now.pin_groups.now.owners.items c.args.at.now.setup.now.pin_groups.now.members.count starts c.args.at.now.setup.now.pin_groups.now.by_group.numbers.items c.requires.ready.by_group (c.args.group + 1) end et in
    let in' : c.loop-place.place < length numbers = omega (arith, low, c.loop-place-test.true) in
    let here = read_at numbers c.loop-place.place c.index-number.result.now in' c.index-number.ensures in
    record {
      horizon = c.in_ok-look_at.ensures.horizon ∙ c.loop-place.invariant.horizon;
      looking = λ g pats ts us. looking_next (task g pats c.args.at.now.setup.now.lib.now ts) c.args.at.now.setup.now.rows.now c.args.at.now.fronts.now.spots (HasUnseen c.args.at.now.setup.now.pin_groups.now c.args.at.now.seen.now.areas.items c.args.at.now.fronts.now.spots c.args.time) numbers c.index-first.result.now c.args.queue.now c.args.time c.loop-place.queue c.look_at.new.queue c.loop-place.place c.index-number.result.now here (c.in_ok-look_at.ensures.looked g pats ts us) (c.loop-place.invariant.looking g pats ts us);
    }

pub returns-clause-looked : goal.returns-clause-looked
returns-clause-looked c g pats ts us =
    let u = c.args.at.now.setup.now.pin_groups.now in
    let starts = u.by_group.starts.items in
    let first = c.index-first.result.now in
    let end = c.index-end.result.now in
    let here : c.args.group < length starts = omega (arith, c.requires.ready.group_low, c.requires.ready.by_group.2.one_more) in
    let next : c.args.group + 1 < length starts = omega (arith, c.requires.ready.group_low, c.requires.ready.by_group.2.one_more) in
    let st = read_at starts c.args.group first here c.index-first.ensures in
    let et = read_at starts (c.args.group + 1) end next c.index-end.ensures in
    let over : end ≤ c.loop-place.place = omega (arith, c.loop-place-test.false) in
    looking_over (task g pats c.args.at.now.setup.now.lib.now ts) c.args.at.now.setup.now.rows.now c.args.at.now.fronts.now.spots (HasUnseen u c.args.at.now.seen.now.areas.items c.args.at.now.fronts.now.spots c.args.time) u.by_group.numbers.items first c.args.queue.now c.args.time u.members.classes u.owners.items starts u.members.count c.args.group end c.loop-place.place c.loop-place.queue c.requires.ready.by_group st et over (c.loop-place.invariant.looking g pats ts us)
