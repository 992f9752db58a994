use Rattle.std.proofs.Common.{◌<◌, length, arith}
use Rattle.lw_bounds.specs.Cuts.{cuts_state, root_side}
use Rattle.lw_match.specs.Queries.{HasNoneIfSure}
use Rattle.lw_match.proofs.RootLists.{by_lists, hunts_on, none_still, was_whole}
use Rattle.lw_match.proofs.sweeping.hunt_near.Goals as goal

pub returns-clause-none : goal.returns-clause-none
returns-clause-none g c = λ e i within.
    let q = c.args.query.now in
    let costs = g.C.Cost.costs in
    let first = c.hunt_list.new.hunt in
    let second = c.hunt_list-2.new.hunt in
    let third = c.hunt_list-3.new.hunt in
    let known : i < length q.site.cuts.now.roots.now = omega arith in
    let after = c.hunt_list-3.ensures.goes_on in
    let was = was_whole costs q second third after e in
    let between = c.hunt_list-2.ensures.goes_on in
    by_lists (root_side (cuts_state q.site.cuts.now) i) (HasNoneIfSure costs q i third.target.bound third.target.top)
    (λ is. none_still costs q first third i (hunts_on costs q first second third between after) e (c.hunt_list.ensures.none (was_whole costs q first second between was) i within known is))
    (λ is. none_still costs q second third i after e (c.hunt_list-2.ensures.none was i within known is))
    (λ is. c.hunt_list-3.ensures.none e i within known is)

pub returns-clause-goes_on : goal.returns-clause-goes_on
returns-clause-goes_on g c =
    let q = c.args.query.now in
    let costs = g.C.Cost.costs in
    let first = c.hunt_list.new.hunt in
    let second = c.hunt_list-2.new.hunt in
    let third = c.hunt_list-3.new.hunt in
    hunts_on costs q c.args.hunt.now second third (hunts_on costs q c.args.hunt.now first second c.hunt_list.ensures.goes_on c.hunt_list-2.ensures.goes_on) c.hunt_list-3.ensures.goes_on
