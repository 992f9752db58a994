use Rattle.std.proofs.Common.{◌<◌, length, sym, subst, arith, All}
use Rattle.lw_reduce.specs.Settling.{IsImplied}
use Rattle.lw_reduce.proofs.RepSteps.{stay_none, stay_then, valid_at}
use Rattle.lw_reduce.proofs.propagate.visit_all.Goals as goal

pub loop-step-init : goal.loop-step-init
loop-step-init c = record {
  kept = stay_none (length c.args.reps.now) c.args.facts.now.nands.now c.args.facts.now.links.now c.args.reps.now c.requires.valid;
  places = c.requires.places;
  canonical = c.requires.canonical;
}

pub loop-step-2-init : goal.loop-step-2-init
loop-step-2-init c = record {
  kept = c.loop-step.invariant.kept;
  places = c.loop-step.invariant.places;
  canonical = c.loop-step.invariant.canonical;
}

pub visit-requires : goal.visit-requires
visit-requires c = record {
  valid = let reps = c.loop-step.reps in
      let valid = c.loop-step.invariant.kept.valid in
      valid_at (length reps) c.args.facts.now.nands.now c.args.facts.now.links.now reps (length c.args.reps.now) valid (sym valid.count);
  canonical = c.loop-step.invariant.canonical;
  some = subst (λ n. 0 < n) (sym c.loop-step.auto.slots) c.requires.some;
  places = c.loop-step.invariant.places;
  within = c.loop-step-test.true;
  few = c.requires.few;
}

pub loop-step-preserved : goal.loop-step-preserved
loop-step-preserved c = record {
  kept = stay_then (length c.args.reps.now) c.args.facts.now.nands.now c.args.facts.now.links.now c.args.reps.now c.loop-step.reps c.visit.new.reps c.loop-step.invariant.kept c.visit.ensures.kept;
  places = c.visit.ensures.places;
  canonical = subst (λ n. All (IsImplied n c.args.facts.now.nands.now c.args.facts.now.links.now) c.args.canonical.now) (sym c.visit.ensures.kept.valid.count) c.loop-step.invariant.canonical;
}

pub visit-requires-in-loop-step-2 : goal.visit-requires-in-loop-step-2
visit-requires-in-loop-step-2 c = record {
  valid = let reps = c.loop-step-2.reps in
      let valid = c.loop-step-2.invariant.kept.valid in
      valid_at (length reps) c.args.facts.now.nands.now c.args.facts.now.links.now reps (length c.args.reps.now) valid (sym valid.count);
  canonical = c.loop-step-2.invariant.canonical;
  some = subst (λ n. 0 < n) (sym c.loop-step-2.auto.slots) (subst (λ n. 0 < n) (sym c.loop-step.auto.slots) c.requires.some);
  places = c.loop-step-2.invariant.places;
  within = let t = c.loop-step-2-test.true in omega arith;
  few = c.requires.few;
}

pub loop-step-2-preserved : goal.loop-step-2-preserved
loop-step-2-preserved c = record {
  kept = stay_then (length c.args.reps.now) c.args.facts.now.nands.now c.args.facts.now.links.now c.args.reps.now c.loop-step-2.reps c.visit-in-loop-step-2.new.reps c.loop-step-2.invariant.kept c.visit-in-loop-step-2.ensures.kept;
  places = c.visit-in-loop-step-2.ensures.places;
  canonical = subst (λ n. All (IsImplied n c.args.facts.now.nands.now c.args.facts.now.links.now) c.args.canonical.now) (sym c.visit-in-loop-step-2.ensures.kept.valid.count) c.loop-step-2.invariant.canonical;
}

pub returns : goal.returns
returns c = c.loop-step-2.invariant.kept
