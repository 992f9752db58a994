use Rattle.std.proofs.Common.{◌≡◌, ◌<◌, ◌≤◌, ◌∙◌, All, Some, None, true, length, map, refl, slice_index_or, sym, ap, subst, arith}
use Rattle.lw_facts.proofs.Lists.{all_at}
use Rattle.lw_choices.specs.Areas.{total}
use Rattle.lw_curves.specs.Backing.{Held, AreBacked, spot_in}
use Rattle.lw_curves.specs.Fronts.{FrontState, IsTried}
use Rattle.lw_choices.specs.Tasks.{task}
use Rattle.lw_choices.specs.Choices.{Choice, IsPartFor}
use Rattle.lw_choices.specs.Rows.{IsRowFor}
use Rattle.lw_choices.specs.Stands.{plain_part, plain_row}
use Rattle.lw_curves.specs.SeenAreas.{AreSeen, HasUnseen}
use Rattle.lw_curves.specs.Settling.{spot, Has, HasAtMost, GivesNoMoreSeen, IsBest, IsStillFor}
use Rattle.lw_queue.specs.Queues.{Waits}
use Rattle.lw_curves.proofs.Backed.{backed_gained, reached_low}
use Rattle.lw_choices.proofs.Lists.{got}
use Rattle.lw_curves.specs.Turns.{turns_of}
use Rattle.lw_curves.proofs.Adding.{looked_in_time, taken_waits, taken_less, total_set}
use Rattle.lw_curves.proofs.SeenPoints.{no_more_seen}
use Rattle.lw_curves.proofs.Stepping.{had_more, none_more, taken_gained, taken_over}
use Rattle.lw_curves.proofs.settling.next_gain.Goals as goal

pub take_at-requires-clause-within : goal.take_at-requires-clause-within
take_at-requires-clause-within c =
    let (g, pats, st) = c.requires.under_way.still in
    let (are, time, still) = c.loop-number.invariant.still g pats st in
    omega (arith, c.requires.under_way.time, time.horizon)

pub take_at-requires-clause-first : goal.take_at-requires-clause-first
take_at-requires-clause-first c t n w =
    let (g, pats, st) = c.requires.under_way.still in
    let (are, time, still) = c.loop-number.invariant.still g pats st in
    (time.looked t n w).0

pub may_give-requires : goal.may_give-requires
may_give-requires c =
    let (g, pats, st) = c.requires.under_way.still in
    let (are, time, still) = c.loop-number.invariant.still g pats st in
    record {
      of_library = λ k d lt. (c.requires.under_way.setup.rows k d lt).part.of_library;
      class_low = subst (λ (f : FrontState). All (λ (r : Choice). r.class < length f.least) c.args.setup.now.rows.now) (sym c.loop-number.invariant.fronts) (λ k d lt. (c.requires.under_way.setup.rows k d lt).class_low);
      tallied = c.requires.under_way.tallied;
      late = λ k has. still.low k (subst (λ (f : FrontState). Has f.spots k) c.loop-number.invariant.fronts has);
    }

pub loop-number-smaller-then-not-may_give : goal.loop-number-smaller-then-not-may_give
loop-number-smaller-then-not-may_give c =
    let (g, pats, st) = c.requires.under_way.still in
    let (are, time, still) = c.loop-number.invariant.still g pats st in
    let within : c.args.time ≤ c.loop-number.queue.horizon = omega (arith, c.requires.under_way.time, time.horizon) in
    taken_less c.loop-number.queue c.take_at.new.self c.args.time c.in-Some.number within c.in-Some.ensures

pub loop-number-preserved-then-not-may_give : goal.loop-number-preserved-then-not-may_give
loop-number-preserved-then-not-may_give c = record {
  fronts = c.loop-number.invariant.fronts;
  still = λ g pats st.
      let s = task g pats c.args.setup.now.lib.now c.args.setup.now.starts.now in
      let xs = c.args.setup.now.rows.now in
      let u = c.args.setup.now.pin_groups.now in
      let ks = c.args.fronts.now.spots in
      let coming = c.args.coming.now in
      let (are, time, still) = c.loop-number.invariant.still g pats st in
      let within : c.args.time ≤ c.loop-number.queue.horizon = omega (arith, c.requires.under_way.time, time.horizon) in
      let here = c.may_give.ensures.no_more c.if-not-may_give.true g pats c.args.setup.now.starts.now c.requires.under_way.setup.pin_groups in
      let here' = subst (λ (f : FrontState). GivesNoMoreSeen s xs f.spots (HasUnseen u c.args.seen.now.areas.items f.spots c.args.time) c.args.time c.in-Some.number) c.loop-number.invariant.fronts here in
      let more = no_more_seen u c.args.seen.now.areas.items ks c.args.time c.in-Some.number coming c.requires.under_way.time c.requires.under_way.seen c.requires.over s xs here' in
      let intime = looked_in_time c.args.time (length xs) (turns_of u coming c.loop-number.queue) time c.take_at.new.self c.in-Some.number within c.in-Some.ensures in
      (are, intime, taken_over s xs c.args.time c.in-Some.number ks (turns_of u coming c.loop-number.queue) c.take_at.new.self within still c.in-Some.ensures more);
}

pub at-row-requires : goal.at-row-requires
at-row-requires c =
    let (g, pats, st) = c.requires.under_way.still in
    let (are, time, still) = c.loop-number.invariant.still g pats st in
    let within : c.args.time ≤ c.loop-number.queue.horizon = omega (arith, c.requires.under_way.time, time.horizon) in
    let w = taken_waits c.loop-number.queue c.take_at.new.self c.args.time c.in-Some.number within c.in-Some.ensures in
    omega (arith, (time.looked c.args.time c.in-Some.number w).1)

pub price-requires : goal.price-requires
price-requires c =
    let r = c.at-row.result in
    let (g, pats, st) = c.requires.under_way.still in
    let (are, time, still) = c.loop-number.invariant.still g pats st in
    subst (λ (f : FrontState). IsPartFor c.args.setup.now.lib.now (length f.least) (plain_part r.stand)) (sym c.loop-number.invariant.fronts) (all_at (IsRowFor c.args.setup.now.lib.now (length c.args.fronts.now.least)) c.args.setup.now.rows.now c.in-Some.number (plain_row r) c.requires.under_way.setup.rows c.at-row.ensures.choice).part

pub loop-number-smaller-in_default-price : goal.loop-number-smaller-in_default-price
loop-number-smaller-in_default-price c =
    let (g, pats, st) = c.requires.under_way.still in
    let (are, time, still) = c.loop-number.invariant.still g pats st in
    let within : c.args.time ≤ c.loop-number.queue.horizon = omega (arith, c.requires.under_way.time, time.horizon) in
    taken_less c.loop-number.queue c.take_at.new.self c.args.time c.in-Some.number within c.in-Some.ensures

pub loop-number-preserved-in_default-price : goal.loop-number-preserved-in_default-price
loop-number-preserved-in_default-price c = record {
  fronts = c.loop-number.invariant.fronts;
  still = λ g pats st.
      let s = task g pats c.args.setup.now.lib.now c.args.setup.now.starts.now in
      let r = c.at-row.result in
      let (are, time, still) = c.loop-number.invariant.still g pats st in
      let within : c.args.time ≤ c.loop-number.queue.horizon = omega (arith, c.requires.under_way.time, time.horizon) in
      let at = c.at-row.ensures.choice in
      let best = subst (λ (f : FrontState). IsBest s f.spots (plain_part r.stand) c.args.time None) c.loop-number.invariant.fronts (c.in_default-price.ensures.best g pats) in
      let intime = looked_in_time c.args.time (length c.args.setup.now.rows.now) (turns_of c.args.setup.now.pin_groups.now c.args.coming.now c.loop-number.queue) time c.take_at.new.self c.in-Some.number within c.in-Some.ensures in
      (are, intime, taken_over s c.args.setup.now.rows.now c.args.time c.in-Some.number c.args.fronts.now.spots (turns_of c.args.setup.now.pin_groups.now c.args.coming.now c.loop-number.queue) c.take_at.new.self within still c.in-Some.ensures (none_more s c.args.setup.now.rows.now c.args.fronts.now.spots c.args.time c.in-Some.number (plain_row r) at best));
}

pub gain-requires : goal.gain-requires
gain-requires c =
    let r = c.at-row.result in
    let (g, pats, st) = c.requires.under_way.still in
    let (are, time, still) = c.loop-number.invariant.still g pats st in
    record {
      class = subst (λ (f : FrontState). r.class.0 < length f.least) (sym c.loop-number.invariant.fronts) (all_at (IsRowFor c.args.setup.now.lib.now (length c.args.fronts.now.least)) c.args.setup.now.rows.now c.in-Some.number (plain_row r) c.requires.under_way.setup.rows c.at-row.ensures.choice).class_low;
      small = c.in-Some-price.ensures.low;
      late = λ k has. still.low k (subst (λ (f : FrontState). Has f.spots k) c.loop-number.invariant.fronts has);
    }

pub returns-in_err-gain-clause-count : goal.returns-in_err-gain-clause-count
returns-in_err-gain-clause-count c = c.in_err-gain.ensures.count ∙ ap (λ (f : FrontState). length f.least) c.loop-number.invariant.fronts

pub returns-then-branch-clause-gain : goal.returns-then-branch-clause-gain
returns-then-branch-clause-gain c =
    let r = c.at-row.result in
    let u = c.args.setup.now.pin_groups.now in
    let old = c.args.fronts.now in
    let (g', pats', st') = c.requires.under_way.still in
    let (are', time', still') = c.loop-number.invariant.still g' pats' st' in
    let within : c.args.time ≤ c.loop-number.queue.horizon = omega (arith, c.requires.under_way.time, time'.horizon) in
    let at = c.at-row.ensures.choice in
    let tried = subst (IsTried c.loop-number.fronts c.gain.new.self (spot r.class.0 c.args.time c.in-Some-price.area) c.in-Some.number) c.if-branch.true c.in_ok-gain.ensures.tried in
    let tried' = subst (λ f. IsTried f c.gain.new.self (spot r.class.0 c.args.time c.in-Some-price.area) c.in-Some.number true) c.loop-number.invariant.fronts tried in
    record {
      after = λ g pats st.
          let s = task g pats c.args.setup.now.lib.now c.args.setup.now.starts.now in
          let (are, time, still) = c.loop-number.invariant.still g pats st in
          let best = subst (λ (f : FrontState). IsBest s f.spots (plain_part r.stand) c.args.time (Some c.in-Some-price.area)) c.loop-number.invariant.fronts (c.in-Some-price.ensures.best g pats) in
          let intime = looked_in_time c.args.time (length c.args.setup.now.rows.now) (turns_of u c.args.coming.now c.loop-number.queue) time c.take_at.new.self c.in-Some.number within c.in-Some.ensures in
          (are, intime, taken_gained s c.args.setup.now.rows.now c.args.time c.in-Some.number old.spots (turns_of u c.args.coming.now c.loop-number.queue) c.take_at.new.self within still c.in-Some.ensures (plain_row r) at are c.in-Some-price.area c.gain.new.self.spots best tried'.0);
      seen = (old.spots, c.in-Some-price.area, c.requires.under_way.seen, tried'.0);
      falls =
          let in' = (all_at (IsRowFor c.args.setup.now.lib.now (length c.args.fronts.now.least)) c.args.setup.now.rows.now c.in-Some.number (plain_row r) c.requires.under_way.setup.rows c.at-row.ensures.choice).class_low in
          let had = got old.least r.class.0 0 in' in
          let falls = total_set old.least r.class.0 c.in-Some-price.area (slice_index_or old.least r.class.0 0) had (tried'.2 (slice_index_or old.least r.class.0 0) had) in
          (in', subst (λ xs. total xs < total old.least) (sym tried'.1) falls);
      backed = λ g pats st backed.
          let s = task g pats c.args.setup.now.lib.now c.args.setup.now.starts.now in
          let (are, time, still) = c.loop-number.invariant.still g pats st in
          let best = subst (λ (f : FrontState). IsBest s f.spots (plain_part r.stand) c.args.time (Some c.in-Some-price.area)) c.loop-number.invariant.fronts (c.in-Some-price.ensures.best g pats) in
          let same = subst (λ (f : FrontState). map spot_in f.held ≡ f.spots) c.loop-number.invariant.fronts c.in_ok-gain.ensures.spots in
          let (order, gained) = tried'.3 in
          let h : Held = record { spot = spot r.class.0 c.args.time c.in-Some-price.area; choice = c.in-Some.number; order = order } in
          backed_gained old.held c.gain.new.self.held h gained s c.args.setup.now.rows.now old.spots same (λ k has. reached_low s k (still.reached k has)) (plain_row r) are at refl best backed;
    }

pub loop-number-smaller : goal.loop-number-smaller
loop-number-smaller c =
    let (g, pats, st) = c.requires.under_way.still in
    let (are, time, still) = c.loop-number.invariant.still g pats st in
    let within : c.args.time ≤ c.loop-number.queue.horizon = omega (arith, c.requires.under_way.time, time.horizon) in
    taken_less c.loop-number.queue c.take_at.new.self c.args.time c.in-Some.number within c.in-Some.ensures

pub loop-number-preserved : goal.loop-number-preserved
loop-number-preserved c =
    let r = c.at-row.result in
    let tried = subst (IsTried c.loop-number.fronts c.gain.new.self (spot r.class.0 c.args.time c.in-Some-price.area) c.in-Some.number) c.if-branch.false c.in_ok-gain.ensures.tried in
    record {
      fronts = tried.0 ∙ c.loop-number.invariant.fronts;
      still = λ g pats st.
          let s = task g pats c.args.setup.now.lib.now c.args.setup.now.starts.now in
          let (are, time, still) = c.loop-number.invariant.still g pats st in
          let within : c.args.time ≤ c.loop-number.queue.horizon = omega (arith, c.requires.under_way.time, time.horizon) in
          let at = c.at-row.ensures.choice in
          let best = subst (λ (f : FrontState). IsBest s f.spots (plain_part r.stand) c.args.time (Some c.in-Some-price.area)) c.loop-number.invariant.fronts (c.in-Some-price.ensures.best g pats) in
          let had = subst (λ (f : FrontState). HasAtMost f.spots r.class.0 c.args.time c.in-Some-price.area) c.loop-number.invariant.fronts tried.1 in
          let intime = looked_in_time c.args.time (length c.args.setup.now.rows.now) (turns_of c.args.setup.now.pin_groups.now c.args.coming.now c.loop-number.queue) time c.take_at.new.self c.in-Some.number within c.in-Some.ensures in
          (are, intime, taken_over s c.args.setup.now.rows.now c.args.time c.in-Some.number c.args.fronts.now.spots (turns_of c.args.setup.now.pin_groups.now c.args.coming.now c.loop-number.queue) c.take_at.new.self within still c.in-Some.ensures (had_more s c.args.setup.now.rows.now c.args.fronts.now.spots c.args.time c.in-Some.number c.in-Some-price.area (plain_row r) at best had));
    }

pub returns-clause-gain : goal.returns-clause-gain
returns-clause-gain c =
    let (same, over) = c.in_default.ensures in
    record {
      after = λ g pats st.
          let s = task g pats c.args.setup.now.lib.now c.args.setup.now.starts.now in
          let here = subst (λ (f : FrontState). IsStillFor s c.args.setup.now.rows.now c.args.time f.spots (turns_of c.args.setup.now.pin_groups.now c.args.coming.now c.loop-number.queue)) (sym c.loop-number.invariant.fronts) (c.loop-number.invariant.still g pats st) in
          let here' = subst (λ q. IsStillFor s c.args.setup.now.rows.now c.args.time c.loop-number.fronts.spots (turns_of c.args.setup.now.pin_groups.now c.args.coming.now q)) (sym same) here in
          (here', (subst (λ q. (t n : _) → Waits q t n → c.args.time < t) (sym same) over, c.requires.over));
      seen = subst (λ (f : FrontState). AreSeen c.args.setup.now.pin_groups.now c.args.seen.now.areas.items f.spots c.args.coming.now) (sym c.loop-number.invariant.fronts) c.requires.under_way.seen;
      falls = tt;
      backed = λ g pats st backed. subst (λ (f : FrontState). AreBacked (task g pats c.args.setup.now.lib.now c.args.setup.now.starts.now) c.args.setup.now.rows.now f.held) (sym c.loop-number.invariant.fronts) backed;
    }
