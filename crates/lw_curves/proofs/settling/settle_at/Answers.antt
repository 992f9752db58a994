use Rattle.std.proofs.Common.{◌∙◌, refl, subst, sym, arith}
use Rattle.lw_curves.specs.Setups.{HaveFallen, IsSetup}
use Rattle.lw_choices.specs.Tasks.{task}
use Rattle.lw_curves.specs.SeenAreas.{AreSeenAfter}
use Rattle.lw_curves.specs.Settling.{Comes, IsAfter, IsStill}
use Rattle.lw_curves.specs.Turns.{turns_of}
use Rattle.lw_curves.proofs.Adding.{groups_added, groups_in_time, groups_more}
use Rattle.lw_curves.proofs.SeenPoints.{seen_pushed}
use Rattle.lw_curves.proofs.Stepping.{uses_added}
use Rattle.lw_curves.proofs.settling.settle_at.Goals as goal

pub loop-class-init : goal.loop-class-init
loop-class-init c = record {
  count = refl;
  horizon = refl;
  tallied = c.requires.tallied;
  seen = c.requires.seen;
  still = λ g pats st. st;
  backed = λ g pats st backed. backed;
}

pub gain_at-requires : goal.gain_at-requires
gain_at-requires c = record {
  setup = subst (λ n. IsSetup n c.args.setup.now) (sym c.loop-class.invariant.count) c.requires.setup;
  time = omega (arith, c.requires.time, c.loop-class.invariant.horizon);
  tallied = c.loop-class.invariant.tallied;
  seen = c.loop-class.invariant.seen;
  still = let (g, pats, st) = c.requires.still in (g, pats, c.loop-class.invariant.still g pats st);
}

pub push_groups-requires-clause-class : goal.push_groups-requires-clause-class
push_groups-requires-clause-class c =
    let falls = subst (HaveFallen c.loop-class.fronts.least c.gain_at.new.fronts.least) c.in-Some.is c.in_ok-class.ensures.gain.falls in
    omega (arith, falls.0, c.requires.setup.count, c.loop-class.invariant.count)

pub push_groups-requires-clause-are : goal.push_groups-requires-clause-are
push_groups-requires-clause-are c = c.requires.setup.pin_groups.pins.are

pub loop-class-preserved : goal.loop-class-preserved
loop-class-preserved c = record {
  count = c.in_ok-class.ensures.kept.count ∙ c.loop-class.invariant.count;
  horizon = c.in_ok-push_groups.ensures.horizon ∙ (c.in_ok-class.ensures.kept.horizon ∙ c.loop-class.invariant.horizon);
  still = λ g pats st.
      let s = task g pats c.args.setup.now.lib.now c.args.setup.now.starts.now in
      let xs = c.args.setup.now.rows.now in
      let u = c.args.setup.now.pin_groups.now in
      let next = c.gain_at.new in
      let now = c.loop-class.invariant.still g pats st in
      let (are, time, gaining) = subst (λ o. IsAfter s xs c.args.time next.fronts.spots (turns_of u next.coming next.queue) o) c.in-Some.is (c.in_ok-class.ensures.gain.after g pats now) in
      let us = c.requires.setup.pin_groups in
      let added = c.in_ok-push_groups.ensures.added in
      let class = c.in-Some.class.0 in
      let more = groups_more s xs u c.args.time class next.coming c.push_groups.new.to next.queue us added in
      let all = groups_added s xs u c.args.time class next.coming c.push_groups.new.to next.queue us added in
      let still = uses_added s xs are c.args.time next.coming.horizon class next.fronts.spots (Comes (turns_of u next.coming next.queue)) (Comes (turns_of u c.push_groups.new.to next.queue)) gaining more all in
      (are, groups_in_time s xs u c.args.time class next.coming c.push_groups.new.to next.queue us added time, subst (λ h. IsStill s xs c.args.time h next.fronts.spots (Comes (turns_of u c.push_groups.new.to next.queue))) (sym added.horizon) still);
  tallied = c.in_ok-class.ensures.kept.tallied;
  seen =
      let next = c.gain_at.new in
      let (old, area, are, gained) = subst (AreSeenAfter c.args.setup.now.pin_groups.now next.seen.areas.items next.fronts.spots next.coming c.args.time) c.in-Some.is c.in_ok-class.ensures.gain.seen in
      seen_pushed c.args.setup.now.pin_groups.now next.seen.areas.items old next.fronts.spots c.in-Some.class.0 c.args.time area next.coming c.push_groups.new.to are gained c.in_ok-push_groups.ensures.added;
  backed = λ g pats st backed. c.in_ok-class.ensures.gain.backed g pats (c.loop-class.invariant.still g pats st) (c.loop-class.invariant.backed g pats st backed);
}

pub returns-in_err-class-clause-kept : goal.returns-in_err-class-clause-kept
returns-in_err-class-clause-kept c = record {
  horizon = c.in_err-class.ensures.kept.horizon ∙ c.loop-class.invariant.horizon;
  count = c.in_err-class.ensures.kept.count ∙ c.loop-class.invariant.count;
  tallied = c.in_err-class.ensures.kept.tallied;
}

pub returns-in_err-push_groups-clause-kept : goal.returns-in_err-push_groups-clause-kept
returns-in_err-push_groups-clause-kept c = record {
  horizon = c.in_err-push_groups.ensures.horizon ∙ (c.in_ok-class.ensures.kept.horizon ∙ c.loop-class.invariant.horizon);
  count = c.in_ok-class.ensures.kept.count ∙ c.loop-class.invariant.count;
  tallied = c.in_ok-class.ensures.kept.tallied;
}

pub returns-clause-kept : goal.returns-clause-kept
returns-clause-kept c = record {
  horizon = c.in_ok-class.ensures.kept.horizon ∙ c.loop-class.invariant.horizon;
  count = c.in_ok-class.ensures.kept.count ∙ c.loop-class.invariant.count;
  tallied = c.in_ok-class.ensures.kept.tallied;
}

pub returns-clause-gained : goal.returns-clause-gained
returns-clause-gained c =
    let setup = c.args.setup.now in
    let next = c.gain_at.new in
    record {
      seen = subst (AreSeenAfter setup.pin_groups.now next.seen.areas.items next.fronts.spots next.coming c.args.time) c.in_default.is c.in_ok-class.ensures.gain.seen;
      still = λ g pats st. subst (λ o. IsAfter (task g pats setup.lib.now setup.starts.now) setup.rows.now c.args.time next.fronts.spots (turns_of setup.pin_groups.now next.coming next.queue) o) c.in_default.is (c.in_ok-class.ensures.gain.after g pats (c.loop-class.invariant.still g pats st));
      backed = λ g pats st backed. c.in_ok-class.ensures.gain.backed g pats (c.loop-class.invariant.still g pats st) (c.loop-class.invariant.backed g pats st backed);
    }
