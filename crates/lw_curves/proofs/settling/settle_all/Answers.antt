use Rattle.std.proofs.Common.{◌∙◌, ◌≤◌, length, refl, subst, sym, arith}
use Rattle.lw_curves.specs.Setups.{IsSetup}
use Rattle.lw_choices.specs.Tasks.{task}
use Rattle.lw_curves.specs.Settling.{Comes}
use Rattle.lw_curves.specs.Turns.{turns_of}
use Rattle.lw_curves.proofs.Adding.{later_in_time, none_comes}
use Rattle.lw_curves.proofs.InTime.{first_within}
use Rattle.lw_queue.proofs.Queueing.{most_falls, none_waits}
use Rattle.lw_curves.proofs.Stepping.{still_later, settled_to}
use Rattle.lw_curves.proofs.settling.settle_all.Goals as goal

pub loop-time-init : goal.loop-time-init
loop-time-init c = record {
  gained = record { few_points = λ few. few; backed = λ g pats st backed. backed };
  count = refl;
  horizon = refl;
  tallied = c.requires.tallied;
  seen = c.requires.seen;
  still = λ g pats st. (0, c.requires.time, st);
}

pub settle_at-requires : goal.settle_at-requires
settle_at-requires c =
    let (g, pats, st) = c.requires.still in
    let w = turns_of c.args.setup.now.pin_groups.now c.loop-time.coming c.loop-time.queue in
    let n = length c.args.setup.now.rows.now in
    let (now, le, (are, time, still)) = c.loop-time.invariant.still g pats st in
    let first = c.in-Some.ensures in
    let within = first_within now n c.in-Some.time w time first in
    record {
      setup = subst (λ n. IsSetup n c.args.setup.now) (sym c.loop-time.invariant.count) c.requires.setup;
      time = within.1;
      tallied = c.loop-time.invariant.tallied;
      seen = c.loop-time.invariant.seen;
      still = (g, pats, (are, later_in_time now n w time c.in-Some.time first.2 first.1, still_later (task g pats c.args.setup.now.lib.now c.args.setup.now.starts.now) c.args.setup.now.rows.now now c.loop-time.coming.horizon c.loop-time.fronts.spots (Comes w) still c.in-Some.time within.0));
    }

pub returns-then-len-gt-MOST_POINTS-clause-settled : goal.returns-then-len-gt-MOST_POINTS-clause-settled
returns-then-len-gt-MOST_POINTS-clause-settled c g pats st =
    let s = task g pats c.args.setup.now.lib.now c.args.setup.now.starts.now in
    let xs = c.args.setup.now.rows.now in
    let w = turns_of c.args.setup.now.pin_groups.now c.loop-time.coming c.loop-time.queue in
    let v = turns_of c.args.setup.now.pin_groups.now c.settle_at.new.coming c.settle_at.new.queue in
    let (now, le, (are, time, still)) = c.loop-time.invariant.still g pats st in
    let first = c.in-Some.ensures in
    let within = first_within now (length xs) c.in-Some.time w time first in
    let later = still_later s xs now c.loop-time.coming.horizon c.loop-time.fronts.spots (Comes w) still c.in-Some.time within.0 in
    let ((are', time', still'), over) = c.in_ok-settle_at.ensures.gained.still g pats (are, later_in_time now (length xs) w time c.in-Some.time first.2 first.1, later) in
    record {
      now = c.in-Some.time;
      in_time = omega (arith, within.1, c.loop-time.invariant.horizon);
      spots = c.settle_at.new.fronts.spots;
      settled = settled_to s xs c.in-Some.time c.settle_at.new.coming.horizon c.settle_at.new.fronts.spots (Comes v) still' c.in-Some.time (omega arith) (omega (arith, within.1, c.in_ok-settle_at.ensures.kept.horizon)) (none_comes c.in-Some.time v over);
      apart = c.len.ensures.apart;
      many = omega (arith, c.if-len-gt-MOST_POINTS.true, c.len.ensures.len);
    }

pub loop-time-smaller : goal.loop-time-smaller
loop-time-smaller c =
    let (g, pats, st) = c.requires.still in
    let s = task g pats c.args.setup.now.lib.now c.args.setup.now.starts.now in
    let xs = c.args.setup.now.rows.now in
    let w = turns_of c.args.setup.now.pin_groups.now c.loop-time.coming c.loop-time.queue in
    let (now, le, (are, time, still)) = c.loop-time.invariant.still g pats st in
    let first = c.in-Some.ensures in
    let within = first_within now (length xs) c.in-Some.time w time first in
    let later = still_later s xs now c.loop-time.coming.horizon c.loop-time.fronts.spots (Comes w) still c.in-Some.time within.0 in
    let ((are', time', still'), over) = c.in_ok-settle_at.ensures.gained.still g pats (are, later_in_time now (length xs) w time c.in-Some.time first.2 first.1, later) in
    most_falls c.loop-time.coming c.loop-time.queue c.settle_at.new.coming c.settle_at.new.queue c.in-Some.time first within.1 time.horizon c.in_ok-settle_at.ensures.kept.horizon (time'.horizon ∙ c.in_ok-settle_at.ensures.kept.horizon) c.horizon.ensures.within c.horizon-in-Some.ensures.within over.0 over.1

pub loop-time-preserved : goal.loop-time-preserved
loop-time-preserved c = record {
  count = c.in_ok-settle_at.ensures.kept.count ∙ c.loop-time.invariant.count;
  horizon = c.in_ok-settle_at.ensures.kept.horizon ∙ c.loop-time.invariant.horizon;
  tallied = c.in_ok-settle_at.ensures.kept.tallied;
  seen = c.in_ok-settle_at.ensures.gained.seen;
  still = λ g pats st.
      let s = task g pats c.args.setup.now.lib.now c.args.setup.now.starts.now in
      let xs = c.args.setup.now.rows.now in
      let w = turns_of c.args.setup.now.pin_groups.now c.loop-time.coming c.loop-time.queue in
      let (now, le, (are, time, still)) = c.loop-time.invariant.still g pats st in
      let first = c.in-Some.ensures in
      let within = first_within now (length xs) c.in-Some.time w time first in
      let later = still_later s xs now c.loop-time.coming.horizon c.loop-time.fronts.spots (Comes w) still c.in-Some.time within.0 in
      let (still', over) = c.in_ok-settle_at.ensures.gained.still g pats (are, later_in_time now (length xs) w time c.in-Some.time first.2 first.1, later) in
      (c.in-Some.time, omega (arith, within.1, c.loop-time.invariant.horizon), still');
  gained = record {
    few_points = λ few. omega (arith, c.if-len-gt-MOST_POINTS.false, c.len.ensures.len);
    backed = λ g pats st backed.
        let s = task g pats c.args.setup.now.lib.now c.args.setup.now.starts.now in
        let xs = c.args.setup.now.rows.now in
        let w = turns_of c.args.setup.now.pin_groups.now c.loop-time.coming c.loop-time.queue in
        let (now, le, (are, time, still)) = c.loop-time.invariant.still g pats st in
        let first = c.in-Some.ensures in
        let within = first_within now (length xs) c.in-Some.time w time first in
        let later = still_later s xs now c.loop-time.coming.horizon c.loop-time.fronts.spots (Comes w) still c.in-Some.time within.0 in
        c.in_ok-settle_at.ensures.gained.backed g pats (are, later_in_time now (length xs) w time c.in-Some.time first.2 first.1, later) (c.loop-time.invariant.gained.backed g pats st backed);
  };
}

pub returns-clause-settled : goal.returns-clause-settled
returns-clause-settled c g pats st =
    let s = task g pats c.args.setup.now.lib.now c.args.setup.now.starts.now in
    let xs = c.args.setup.now.rows.now in
    let w = turns_of c.args.setup.now.pin_groups.now c.loop-time.coming c.loop-time.queue in
    let (now, le, (are, time, still)) = c.loop-time.invariant.still g pats st in
    let (none, none') = c.in_default.ensures in
    let within : c.args.coming.now.horizon ≤ c.loop-time.coming.horizon = omega (arith, c.loop-time.invariant.horizon) in
    settled_to s xs now c.loop-time.coming.horizon c.loop-time.fronts.spots (Comes w) still c.args.coming.now.horizon le within (none_comes c.args.coming.now.horizon w ((λ t n v. absurd (none_waits c.loop-time.queue none' t n v)), λ t n v. absurd (none_waits c.loop-time.coming none t n v)))

pub returns-clause-gained : goal.returns-clause-gained
returns-clause-gained c = c.loop-time.invariant.gained
