use Rattle.std.proofs.Common.{arith}
use Rattle.lw_match.proofs.RootLists.{stays_on, hunts_on, none_next}
use Rattle.lw_match.proofs.sweeping.hunt_all.Goals as goal

pub loop-number-init : goal.loop-number-init
loop-number-init g c = record {
  goes_on = stays_on g.C.Cost.costs c.args.query.now c.args.hunt.now c.args.hunt.now.scratch;
  none = λ e i lt. absurd (omega arith);
}

pub loop-number-preserved : goal.loop-number-preserved
loop-number-preserved g c =
    let q = c.args.query.now in
    let l = c.loop-number in
    record {
      goes_on = hunts_on g.C.Cost.costs q c.args.hunt.now l.hunt c.hunt_by.new.hunt l.invariant.goes_on c.hunt_by.ensures.goes_on;
      none = none_next g.C.Cost.costs q l.number l.hunt c.hunt_by.new.hunt c.hunt_by.ensures.goes_on c.hunt_by.ensures.none l.invariant.none;
    }

pub returns-clause-none : goal.returns-clause-none
returns-clause-none g c = λ e i within.
    c.loop-number.invariant.none e i (omega (arith, c.loop-number-test.false, c.len-number-end.ensures.len))
