use Rattle.std.proofs.Common.{◌/◌, ◌<◌, ◌∙◌, length, sym, subst, true≢false}
use Rattle.lw_reduce.proofs.RepSteps.{valid_at}
use Rattle.lw_reduce.proofs.RepLemmas.{unify_same, unify_none, unify_right, unify_left}
use Rattle.lw_reduce.proofs.representatives.unify.Goals as goal

pub find-a-requires : goal.find-a-requires
find-a-requires c = record {
  valid = c.requires.valid;
  within = c.requires.left;
}

pub find-b-requires : goal.find-b-requires
find-b-requires c =
    let mid = c.find-a.new.reps in
    let valid = c.find-a.ensures.valid in
    record {
      valid = valid_at (length mid) c.args.facts.now.nands.now c.args.facts.now.links.now mid (length c.args.reps.now) valid (sym valid.count);
      within = subst (λ m. c.args.right / 2 < m) (sym valid.count) c.requires.right;
    }

pub set_rep-requires : goal.set_rep-requires
set_rep-requires c = subst (λ m. c.find-b.result / 2 < m) (sym c.find-b.ensures.valid.count) c.find-b.ensures.within

pub set_rep-requires-else-a-b-2 : goal.set_rep-requires-else-a-b-2
set_rep-requires-else-a-b-2 c = subst (λ m. c.find-a.result / 2 < m) (sym (c.find-b.ensures.valid.count ∙ c.find-a.ensures.valid.count)) c.find-a.ensures.within

pub returns-then-a-b : goal.returns-then-a-b
returns-then-a-b c = record {
  progress = unify_none (length c.args.reps.now) c.args.facts.now.nands.now c.args.facts.now.links.now c.args.reps.now c.find-a.new.reps c.find-b.new.reps c.args.left c.args.right c.find-a.result c.find-b.result c.find-a.ensures c.find-b.ensures c.if-a-b.true;
  same = λ _ flat. unify_same (length c.args.reps.now) c.args.facts.now.nands.now c.args.facts.now.links.now c.args.reps.now c.find-a.new.reps c.find-b.new.reps c.args.left c.args.right c.find-a.result c.find-b.result c.find-a.ensures c.find-b.ensures c.if-a-b.true flat;
}

pub returns-then-a-b-2 : goal.returns-then-a-b-2
returns-then-a-b-2 c = record {
  progress = unify_right (length c.args.reps.now) c.args.facts.now.nands.now c.args.facts.now.links.now c.args.reps.now c.find-a.new.reps c.find-b.new.reps c.args.left c.args.right c.find-a.result c.find-b.result c.find-a.ensures c.find-b.ensures c.set_rep.new.reps c.requires.alike c.if-a-b-2.true c.set_rep.ensures;
  same = λ e. absurd (true≢false e);
}

pub returns-else-a-b-2 : goal.returns-else-a-b-2
returns-else-a-b-2 c = record {
  progress = unify_left (length c.args.reps.now) c.args.facts.now.nands.now c.args.facts.now.links.now c.args.reps.now c.find-a.new.reps c.find-b.new.reps c.args.left c.args.right c.find-a.result c.find-b.result c.find-a.ensures c.find-b.ensures c.set_rep-else-a-b-2.new.reps c.requires.alike c.if-a-b-2.false c.if-a-b.false c.set_rep-else-a-b-2.ensures;
  same = λ e. absurd (true≢false e);
}
