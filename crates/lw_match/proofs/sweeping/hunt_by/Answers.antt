use Rattle.lw_match.proofs.RootLists.{found_on, found_none, stays_on}
use Rattle.lw_match.proofs.sweeping.hunt_by.Goals as goal

pub returns-in-Some-clause-goes_on : goal.returns-in-Some-clause-goes_on
returns-in-Some-clause-goes_on g c =
    let q = c.args.query.now in
    found_on g.C.Cost.costs q c.args.hunt.now c.target_after-hunt.result c.in-Some.best c.find_better_by.new.scratch c.target_after-hunt.ensures.goes_on c.in-Some.ensures.sound c.target_after-hunt.ensures.sharper

pub returns-in-Some-clause-none : goal.returns-in-Some-clause-none
returns-in-Some-clause-none g c = λ whole.
    let q = c.args.query.now in
    found_none g.C.Cost.costs q c.args.hunt.now c.in-Some.best c.target_after-hunt.result c.args.pat.0 c.target_after-hunt.ensures.goes_on c.target_after-hunt.ensures.sharper whole c.in-Some.ensures.none

pub returns-in_default-clause-goes_on : goal.returns-in_default-clause-goes_on
returns-in_default-clause-goes_on g c =
    let q = c.args.query.now in stays_on g.C.Cost.costs q c.args.hunt.now c.find_better_by.new.scratch
