use Rattle.std.proofs.Common.{◌∙◌, ◌<◌, ◌≤◌, ℕ, length, refl, sym, subst, arith}
use Rattle.lw_choices.specs.Tasks.{task}
use Rattle.lw_curves.specs.SeenAreas.{AreSeen, HasUnseen}
use Rattle.lw_curves.specs.Settling.{IsStillFor, IsStill, Comes}
use Rattle.lw_queue.specs.Queues.{Waits}
use Rattle.lw_curves.specs.Turns.{turns_of}
use Rattle.lw_curves.proofs.Adding.{group_in_time, taken_less, taken_waits}
use Rattle.lw_curves.proofs.SeenPoints.{seen_taken, unseen_comes}
use Rattle.lw_curves.proofs.Stepping.{group_over}
use Rattle.lw_curves.proofs.waking.look_at_groups.Goals as goal

pub loop-place-init : goal.loop-place-init
loop-place-init c = record {
  horizon = refl;
  tallied = c.requires.tallied;
  seen = c.requires.seen;
  still = λ g pats st. st;
}

pub take_hinted_at-requires-clause-within : goal.take_hinted_at-requires-clause-within
take_hinted_at-requires-clause-within c = omega (arith, c.requires.time, c.loop-place.invariant.horizon)

pub take_hinted_at-requires-clause-first : goal.take_hinted_at-requires-clause-first
take_hinted_at-requires-clause-first c t n w =
    let (g, pats, st) = c.requires.still in
    let (are, time, still) = c.loop-place.invariant.still g pats st in
    (time.coming t n w).0

pub see-requires : goal.see-requires
see-requires c =
    let (g, pats, st) = c.requires.still in
    let (are, time, still) = c.loop-place.invariant.still g pats st in
    let within : c.args.time ≤ c.loop-place.coming.horizon = omega (arith, c.requires.time, c.loop-place.invariant.horizon) in
    let w = taken_waits c.loop-place.coming c.take_hinted_at.new.self c.args.time c.in-Some.group within c.in-Some.ensures in
    record {
      group_low = (time.coming c.args.time c.in-Some.group w).1;
      are = c.requires.setup.pin_groups.pins.are;
      by_group = c.requires.setup.pin_groups.by_group;
      one_each = c.loop-place.invariant.tallied.one_each;
      count = c.requires.setup.count;
    }

pub look_at_group-requires-clause-time : goal.look_at_group-requires-clause-time
look_at_group-requires-clause-time c =
    let (g, pats, st) = c.requires.still in
    let (are, time, still) = c.loop-place.invariant.still g pats st in
    omega (arith, c.requires.time, c.loop-place.invariant.horizon, time.horizon)

pub look_at_group-requires-clause-ready : goal.look_at_group-requires-clause-ready
look_at_group-requires-clause-ready c =
    let (g, pats, st) = c.requires.still in
    let (are, time, still) = c.loop-place.invariant.still g pats st in
    let within : c.args.time ≤ c.loop-place.coming.horizon = omega (arith, c.requires.time, c.loop-place.invariant.horizon) in
    let w = taken_waits c.loop-place.coming c.take_hinted_at.new.self c.args.time c.in-Some.group within c.in-Some.ensures in
    record {
      ready = record {
        of_library = λ k d lt. (c.requires.setup.rows k d lt).part.of_library;
        class_low = λ k d lt. (c.requires.setup.rows k d lt).class_low;
        tallied = c.see.ensures.tallied c.args.setup.now.lib.now c.args.setup.now.rows.now c.requires.setup.pin_groups c.loop-place.invariant.tallied;
        late = still.low;
      };
      group_low = (time.coming c.args.time c.in-Some.group w).1;
      by_group = c.requires.setup.pin_groups.by_group;
    }

pub loop-place-smaller : goal.loop-place-smaller
loop-place-smaller c =
    let within : c.args.time ≤ c.loop-place.coming.horizon = omega (arith, c.requires.time, c.loop-place.invariant.horizon) in
    taken_less c.loop-place.coming c.take_hinted_at.new.self c.args.time c.in-Some.group within c.in-Some.ensures

pub loop-place-preserved : goal.loop-place-preserved
loop-place-preserved c =
    let within : c.args.time ≤ c.loop-place.coming.horizon = omega (arith, c.requires.time, c.loop-place.invariant.horizon) in
    let u = c.args.setup.now.pin_groups.now in
    let all = seen_taken u c.loop-place.seen.areas.items c.see.new.seen.areas.items c.args.fronts.now.spots c.loop-place.coming c.take_hinted_at.new.self c.args.time c.in-Some.group within c.in-Some.ensures c.see.ensures.seeing c.loop-place.invariant.seen in
    record {
      horizon = c.in-Some.ensures.0 ∙ c.loop-place.invariant.horizon;
      tallied = c.see.ensures.tallied c.args.setup.now.lib.now c.args.setup.now.rows.now c.requires.setup.pin_groups c.loop-place.invariant.tallied;
      seen = all;
      still = λ g pats st.
          let s = task g pats c.args.setup.now.lib.now c.args.setup.now.starts.now in
          let xs = c.args.setup.now.rows.now in
          let ks = c.args.fronts.now.spots in
          let coming = c.take_hinted_at.new.self in
          let queue = c.look_at_group.new.queue in
          let unseen : ℕ → Type 0 = HasUnseen u c.see.new.seen.areas.items ks c.args.time in
          let w = turns_of u c.loop-place.coming c.loop-place.queue in
          let (are, time, still) = c.loop-place.invariant.still g pats st in
          let looked = c.in_ok-look_at_group.ensures.looked g pats c.args.setup.now.starts.now c.requires.setup.pin_groups in
          let time' = group_in_time c.args.time (length xs) w time coming queue c.in-Some.group within c.in-Some.ensures looked.horizon looked.only in
          let within' : c.args.time ≤ coming.horizon = omega (arith, within, c.in-Some.ensures.0) in
          let later : (m : ℕ) → HasUnseen u c.see.new.seen.areas.items ks c.args.time m → Comes (turns_of u coming queue) c.args.time m = λ m un. unseen_comes u c.see.new.seen.areas.items ks c.args.time (length xs) m coming queue within' all time' un in
          let here = group_over s xs c.args.time c.in-Some.group ks unseen w coming queue within still c.in-Some.ensures looked later in
          let here' = subst (λ h. IsStill s xs c.args.time h ks (Comes (turns_of u coming queue))) (sym c.in-Some.ensures.0) here in
          (are, time', here');
    }

pub returns-in_err-look_at_group-clause-horizon : goal.returns-in_err-look_at_group-clause-horizon
returns-in_err-look_at_group-clause-horizon c = c.in-Some.ensures.0 ∙ c.loop-place.invariant.horizon

pub returns-in_err-look_at_group-clause-tallied : goal.returns-in_err-look_at_group-clause-tallied
returns-in_err-look_at_group-clause-tallied c = c.see.ensures.tallied c.args.setup.now.lib.now c.args.setup.now.rows.now c.requires.setup.pin_groups c.loop-place.invariant.tallied

pub returns-clause-over : goal.returns-clause-over
returns-clause-over c = record {
  seen = subst (AreSeen c.args.setup.now.pin_groups.now c.loop-place.seen.areas.items c.args.fronts.now.spots) (sym c.in_default.ensures.0) c.loop-place.invariant.seen;
  over = subst (λ q. (t g : ℕ) → Waits q t g → c.args.time < t) (sym c.in_default.ensures.0) c.in_default.ensures.1;
  still = λ g pats st. subst (λ q. IsStillFor (task g pats c.args.setup.now.lib.now c.args.setup.now.starts.now) c.args.setup.now.rows.now c.args.time c.args.fronts.now.spots (turns_of c.args.setup.now.pin_groups.now q c.loop-place.queue)) (sym c.in_default.ensures.0) (c.loop-place.invariant.still g pats st);
}
