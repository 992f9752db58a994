use Rattle.std.proofs.Common.{◌+◌, ◌≤◌, refl, length, inl, inr, slice_index, ◌∙◌, subst, sym, arith}
use native.Mathlib.Decide.{dec_lt}
use Rattle.lw_lut.specs.Reaches.{FallsAt}
use Rattle.lw_lut.specs.Searches.{AreSettled}
use Rattle.lw_lut.proofs.Reaching.{still_bounded, settled_start, settled_rest}
use Rattle.lw_lut.proofs.search.Search.settle_all.Goals as goal

pub loop-place-preserved : goal.loop-place-preserved
loop-place-preserved c =
    let l = c.loop-place in
    let step = c.settle-deeper in
    let reach = c.args.task.now.reach.now in
    let old = l.self.counts.items in
    let new = step.new.self.counts.items in
    let falls : FallsAt reach old new l.place c.seen.result = record {
      fewer = step.ensures.fewer;
      elsewhere = step.ensures.elsewhere;
      seen = λ ne. c.seen.ensures.seen (λ low. ne (step.ensures.same (inl low))) (elim (dec_lt c.args.task.now.leaves (slice_index old l.place)) [
        | yes many ↦ absurd (ne (step.ensures.same (inr many)))
        | no few ↦ omega (arith, few)
      ]);
    } in
    record {
      counts = step.ensures.counts ∙ l.invariant.counts;
      pins = step.ensures.pins ∙ l.invariant.pins;
      depths = step.ensures.depths ∙ l.invariant.depths;
      lists = λ g s. step.ensures.lists g (l.invariant.lists g s);
      settled = λ g s known. subst (λ b. AreSettled c.args.task.now.leaves c.args.depth c.args.self.now step.new.self (l.place + 1) b) (sym c.either-changed.ensures) (step.ensures.settled g c.args.self.now l.changed (l.invariant.lists g s) (l.invariant.settled g s known));
      within = let lt = c.loop-place-test.true in let top = c.min-last.ensures in omega (arith, lt, top, c.len-places.ensures, c.args.self.now.counts.ok.0);
      few = λ k le. l.invariant.few k (step.ensures.few k le);
      bounded = λ g reaches all d lt out. still_bounded g reach reaches old new l.place c.seen.result falls d out (l.invariant.bounded g reaches all d lt (λ i. out (c.seen.ensures.grown d i)));
    }

pub loop-place-init : goal.loop-place-init
loop-place-init c =
    let self = c.args.self.now in
    let top = c.min-first.ensures in
    let all = c.len-places.ensures in
    let long = self.counts.ok.0 in
    let within : c.min-first.result ≤ length self.counts.items = omega (arith, top, all, long) in
    record {
      counts = refl;
      pins = refl;
      depths = refl;
      lists = λ g s. s;
      settled = λ g s known. settled_start c.args.task.now.leaves c.args.depth self c.args.swept c.min-first.result within (omega (arith, top)) known;
      within = within;
      few = λ k le. le;
      bounded = λ g reaches all d lt out. all d lt;
    }

pub settle-deeper-requires-clause-places : goal.settle-deeper-requires-clause-places
settle-deeper-requires-clause-places c =
    let inv = c.loop-place.invariant in
    let were = c.requires.places in
    let counts = inv.counts in
    record {
      one_pin = omega (arith, inv.pins, counts, were.one_pin);
      two_depths = omega (arith, inv.depths, counts, were.two_depths);
      few_places = omega (arith, counts, were.few_places);
    }

pub returns : goal.returns
returns c =
    let self = c.args.self.now in
    let l = c.loop-place in
    let top = c.min-last.ensures in
    let all = c.len-places.ensures in
    let long = self.counts.ok.0 in
    let end = c.loop-place-test.false in
    record {
      lists = l.invariant.lists;
      settled = λ g s known. settled_rest c.args.task.now.leaves c.args.depth self l.self c.args.swept l.place l.changed (l.invariant.settled g s known) known l.invariant.within (omega (arith, top, all, long, end));
      few = l.invariant.few;
      bounded = l.invariant.bounded;
    }
