use Rattle.std.proofs.Common.{All, length, sym, subst, true≢false}
use Rattle.lw_reduce.specs.Representatives.{IsFactIn, IsFlat, LinkAgrees}
use Rattle.lw_reduce.proofs.SettledReps.{settled_by_own}
use Rattle.lw_reduce.proofs.RepSteps.{valid_at}
use Rattle.lw_reduce.proofs.rounds.are_settled.Goals as goal

pub flatten-requires : goal.flatten-requires
flatten-requires c = c.requires

pub unify_linked-requires : goal.unify_linked-requires
unify_linked-requires c =
    let flat = c.flatten.new.reps in
    let valid = c.flatten.ensures.kept.valid in
    valid_at (length flat) c.args.facts.now.nands.now c.args.facts.now.links.now flat (length c.args.reps.now) valid (sym valid.count)

pub returns-then-unify_linked : goal.returns-then-unify_linked
returns-then-unify_linked c = record {
  valid = valid_at (length c.args.reps.now) c.args.facts.now.nands.now c.args.facts.now.links.now c.unify_linked.new.reps (length c.flatten.new.reps) c.unify_linked.ensures.progress.valid c.flatten.ensures.kept.valid.count;
  settled = λ e. absurd (true≢false (sym e));
}

pub invariant_of-have_distinct_operands : goal.invariant_of-have_distinct_operands
invariant_of-have_distinct_operands c = record {
  known = let valid = c.unify_linked.ensures.progress.valid in
      subst (λ n. All (IsFactIn n) c.args.facts.now.nands.now) (sym valid.count) valid.nands_in;
}

pub returns : goal.returns
returns c =
    let n = length c.args.reps.now in
    let nands = c.args.facts.now.nands.now in
    let links = c.args.facts.now.links.now in
    let mid = c.unify_linked.new.reps in
    let (same, linked) = c.unify_linked.ensures.same c.if-unify_linked.false c.flatten.ensures.flat in
    let valid = valid_at n nands links mid (length c.flatten.new.reps) c.unify_linked.ensures.progress.valid c.flatten.ensures.kept.valid.count in
    record {
      valid = valid;
      settled = λ own. settled_by_own n nands links mid valid (subst IsFlat (sym same) c.flatten.ensures.flat) (subst (λ ns. All (LinkAgrees ns) links) (sym same) linked) (c.in_ok-own.ensures own);
    }
