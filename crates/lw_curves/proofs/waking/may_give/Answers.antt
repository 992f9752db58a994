use Rattle.std.proofs.Common.{◌≡◌, ◌<◌, length, min, subst, subst₂, arith}
use Rattle.std.proofs.lemmas.Option.{slice_get_within}
use Rattle.lw_choices.specs.Areas.{most_area}
use Rattle.lw_curves.specs.Fronts.{IsLessOr}
use Rattle.lw_choices.specs.Tasks.{task}
use Rattle.lw_curves.specs.Settling.{HasAtMost}
use Rattle.lw_choices.specs.Choices.{Choice, IsOfLibrary}
use Rattle.lw_curves.specs.Tallies.{bound_of}
use Rattle.lw_facts.proofs.Lists.{all_at}
use Rattle.lw_choices.proofs.Lists.{get_some, read_at}
use Rattle.lw_curves.proofs.SeenPoints.{tally_done}
use Rattle.lw_curves.proofs.waking.may_give.Goals as goal

pub returns-then-place-len-clause-no_more : goal.returns-then-place-len-clause-no_more
returns-then-place-len-clause-no_more c f g pats starts us x a at gives =
    let lt = slice_get_within c.args.at.now.setup.now.rows.now c.args.number x at in
    absurd (omega (arith, lt, c.if-place-len.true, c.len.ensures, c.requires.tallied.tallies.one_each))

pub is_less-requires : goal.is_less-requires
is_less-requires c =
    let tallies = c.args.at.now.seen.now.tallies.items in
    let lt : c.args.number < length tallies = omega (arith, c.if-place-len.false, c.len.ensures) in
    let tally = c.index.result.now in
    let tt = read_at tallies c.args.number tally lt c.index.ensures in
    let lr : c.args.number < length c.args.at.now.setup.now.rows.now = omega (arith, lt, c.requires.tallied.tallies.one_each) in
    let (r, at) = get_some c.args.at.now.setup.now.rows.now c.args.number lr in
    let class = (c.requires.tallied.tallies.each c.args.number r tally at tt).class_is in
    let low = all_at (λ (q : Choice). q.class < length c.args.at.now.fronts.now.least) c.args.at.now.setup.now.rows.now c.args.number r c.requires.class_low at in
    record {
      class = omega (arith, class, low);
      small = omega (arith, c.min-area.ensures);
      late = c.requires.late;
    }

pub returns-then-bound-ge-UNSEEN-clause-no_more : goal.returns-then-bound-ge-UNSEEN-clause-no_more
returns-then-bound-ge-UNSEEN-clause-no_more c f g pats starts us =
    let tallies = c.args.at.now.seen.now.tallies.items in
    let lt : c.args.number < length tallies = omega (arith, c.if-place-len.false, c.len.ensures) in
    let tally = c.index.result.now in
    let tt = read_at tallies c.args.number tally lt c.index.ensures in
    let lr : c.args.number < length c.args.at.now.setup.now.rows.now = omega (arith, lt, c.requires.tallied.tallies.one_each) in
    let (r, at) = get_some c.args.at.now.setup.now.rows.now c.args.number lr in
    let is = c.requires.tallied.tallies.each c.args.number r tally at tt in
    let of = all_at (λ (q : Choice). IsOfLibrary c.args.at.now.setup.now.lib.now q.part) c.args.at.now.setup.now.rows.now c.args.number r c.requires.of_library at in
    tally_done (task g pats c.args.at.now.setup.now.lib.now starts) c.args.at.now.setup.now.rows.now c.args.at.now.setup.now.pin_groups.now us c.args.at.now.seen.now.areas.items c.args.at.now.fronts.now.spots c.args.time c.args.number r tally at of is (λ few. absurd (omega (arith, few, c.bound-bound.ensures.value, c.if-bound-ge-UNSEEN.true)))

pub returns-clause-no_more : goal.returns-clause-no_more
returns-clause-no_more c f g pats starts us =
    let tallies = c.args.at.now.seen.now.tallies.items in
    let lt : c.args.number < length tallies = omega (arith, c.if-place-len.false, c.len.ensures) in
    let tally = c.index.result.now in
    let tt = read_at tallies c.args.number tally lt c.index.ensures in
    let lr : c.args.number < length c.args.at.now.setup.now.rows.now = omega (arith, lt, c.requires.tallied.tallies.one_each) in
    let (r, at) = get_some c.args.at.now.setup.now.rows.now c.args.number lr in
    let is = c.requires.tallied.tallies.each c.args.number r tally at tt in
    let of = all_at (λ (q : Choice). IsOfLibrary c.args.at.now.setup.now.lib.now q.part) c.args.at.now.setup.now.rows.now c.args.number r c.requires.of_library at in
    let area = c.min-area.result in
    let least : area ≡ min most_area (bound_of tally) = omega (arith, c.min-area.ensures, c.bound-bound.ensures.value) in
    let had = subst (IsLessOr c.args.at.now.fronts.now.spots tally.class.0 c.args.time area) f c.is_less.ensures in
    let had' = subst₂ (λ k a. HasAtMost c.args.at.now.fronts.now.spots k c.args.time a) is.class_is least had in
    tally_done (task g pats c.args.at.now.setup.now.lib.now starts) c.args.at.now.setup.now.rows.now c.args.at.now.setup.now.pin_groups.now us c.args.at.now.seen.now.areas.items c.args.at.now.fronts.now.spots c.args.time c.args.number r tally at of is (λ few. had')
