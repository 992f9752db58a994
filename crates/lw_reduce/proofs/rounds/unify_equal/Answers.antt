use Rattle.std.proofs.Common.{All, length, sym, subst, ◌∙◌, arith, true≢false}
use Rattle.lw_reduce.specs.Settling.{IsImplied}
use Rattle.lw_reduce.proofs.RepSteps.{step_true, step_false, valid_at}
use Rattle.lw_reduce.proofs.Settling.{agree_next}
use Rattle.lw_reduce.proofs.rounds.unify_equal.Goals as goal
use Rattle.lw_reduce.proofs.rounds.unify_equal.Goals.{then-unify_at, else-unify_at}

pub loop-place-preserved : goal.loop-place-preserved
loop-place-preserved c =
    let n = length c.args.reps.now in
    let nands = c.args.facts.now.nands.now in
    let links = c.args.facts.now.links.now in
    let l = c.loop-place in
    let p = l.invariant.progress in
    let q = c.unify_at.ensures.progress in
    elim c.if-unify_at.branch [
      | then-unify_at w ↦ record {
        progress = step_true n nands links c.args.reps.now l.reps c.unify_at.new.reps l.changed c.if-unify_at.changed c.unify_at.result p q w.if-unify_at.true w.changed-is;
        same = λ e. absurd (true≢false (sym w.changed-is ∙ e));
      }
      | else-unify_at w ↦ record {
        progress = step_false n nands links c.args.reps.now l.reps c.unify_at.new.reps l.changed c.if-unify_at.changed c.unify_at.result p q w.if-unify_at.false w.changed-is;
        same = λ e f. agree_next n nands links c.args.reps.now l.reps c.unify_at.new.reps c.args.canonical.now l.place f (l.invariant.same (sym w.changed-is ∙ e) f) (c.unify_at.ensures.same w.if-unify_at.false);
      }
    ]

pub unify_at-requires : goal.unify_at-requires
unify_at-requires c = record {
  valid = let reps = c.loop-place.reps in
      let valid = c.loop-place.invariant.progress.valid in
      valid_at (length reps) c.args.facts.now.nands.now c.args.facts.now.links.now reps (length c.args.reps.now) valid (sym valid.count);
  canonical = subst (λ n. All (IsImplied n c.args.facts.now.nands.now c.args.facts.now.links.now) c.args.canonical.now) (sym c.loop-place.invariant.progress.valid.count) c.requires.canonical;
  start = c.loop-place.auto.place;
  within = c.loop-place-test.true;
}

pub returns : goal.returns
returns c = record {
  progress = c.loop-place.invariant.progress;
  same = λ e f.
      let (same, all) = c.loop-place.invariant.same e f in
      (same, λ place low lt. all place low (omega (arith, lt, c.loop-place-test.false)));
}
