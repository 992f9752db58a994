use Rattle.std.proofs.Common.{◌≡◌, ◌+◌, ◌<◌, length, slice_index_or, sym, ap, ◌∙◌, arith}
use Rattle.std.proofs.lemmas.Option.{same_Some}
use Rattle.lw_curves.proofs.Falling.{falling_first, falling_next, falling_over}
use Rattle.lw_choices.proofs.Lists.{get_some, read_at}
use Rattle.lw_choices.proofs.Members.{length_owners, listed_low, owner_at}
use Rattle.lw_curves.proofs.tallies.lower_tallies.Goals as goal

pub index-first-requires : goal.index-first-requires
index-first-requires c = omega (arith, c.requires.group, c.requires.by_group.2.one_more)

pub index-end-requires : goal.index-end-requires
index-end-requires c = omega (arith, c.requires.group, c.requires.by_group.2.one_more)

pub loop-at-init : goal.loop-at-init
loop-at-init c s xs seen fallen places us has numbers_are listed is =
    let starts = c.args.pin_groups.now.by_group.starts.items in
    let here : c.args.group < length starts = omega (arith, c.requires.group, listed.one_more) in
    let next : c.args.group + 1 < length starts = omega (arith, c.requires.group, listed.one_more) in
    let st = read_at starts c.args.group c.index-first.result.now here c.index-first.ensures in
    let et = read_at starts (c.args.group + 1) c.index-end.result.now next c.index-end.ensures in
    falling_first s xs c.args.pin_groups.now us fallen c.args.group c.args.fall places seen c.index-first.result.now c.index-end.result.now c.args.tallies.now has listed st et is

pub index-requires : goal.index-requires
index-requires c =
    let u = c.args.pin_groups.now in
    let starts = u.by_group.starts.items in
    let next : c.args.group + 1 < length starts = omega (arith, c.requires.group, c.requires.by_group.2.one_more) in
    let end = c.index-end.result.now in
    let et = read_at starts (c.args.group + 1) end next c.index-end.ensures in
    let low = listed_low u.members.classes u.owners.items u.members.count starts u.by_group.numbers.items c.requires.by_group (c.args.group + 1) end et in
    omega (arith, low, c.loop-at-test.true)

pub loop-at-preserved : goal.loop-at-preserved
loop-at-preserved c s xs seen fallen places us has numbers_are listed is =
    let u = c.args.pin_groups.now in
    let starts = u.by_group.starts.items in
    let next : c.args.group + 1 < length starts = omega (arith, c.requires.group, listed.one_more) in
    let end = c.index-end.result.now in
    let et = read_at starts (c.args.group + 1) end next c.index-end.ensures in
    let low = listed.low (c.args.group + 1) end et in
    let in' : c.loop-at.at < length places = omega (arith, low, c.loop-at-test.true) in
    let (place, pt) = get_some places c.loop-at.at in' in
    let size : length u.by_group.numbers.items ≡ length places = ap length numbers_are ∙ length_owners u.owners.items places in
    let lt : c.loop-at.at < length u.by_group.numbers.items = omega (arith, in', size) in
    let number = read_at u.by_group.numbers.items c.loop-at.at c.index.result.now lt c.index.ensures in
    let same = same_Some c.index.result.now (slice_index_or u.owners.items place 0) (sym number ∙ owner_at u.owners.items u.by_group.numbers.items places c.loop-at.at place numbers_are pt) in
    falling_next s xs u us fallen c.args.group c.args.fall places c.loop-at.at end place c.index.result.now c.loop-at.tallies c.lower_tally.new.tallies pt same c.lower_tally.ensures (c.loop-at.invariant s xs seen fallen places us has numbers_are listed is)

pub returns : goal.returns
returns c s xs seen fallen us has is =
    let (places, numbers_are, listed) = c.requires.by_group in
    falling_over s xs c.args.pin_groups.now us fallen c.args.group c.args.fall places c.loop-at.at c.index-end.result.now c.loop-at.tallies (omega (arith, c.loop-at-test.false)) (c.loop-at.invariant s xs seen fallen places us has numbers_are listed is)
