use Rattle.std.proofs.Common.{ℕ, All, length, sym, subst, ◌≡◌, ◌≤◌, ◌<◌, ◌∙◌, true≢false, inl, inr}
use Rattle.lw_reduce.specs.Representatives.{IsFactIn, IsFlat}
use Rattle.lw_reduce.specs.Settling.{AgreesAt}
use Rattle.lw_reduce.proofs.RepSteps.{either_progress, valid_at}
use Rattle.lw_reduce.proofs.Settling.{all_implied, settled}
use Rattle.lw_reduce.proofs.rounds.run_round.Goals as goal
use Rattle.lw_reduce.proofs.rounds.run_round.Goals.{then-linked, else-linked}

pub unify_equal-equal-requires : goal.unify_equal-equal-requires
unify_equal-equal-requires c =
    let mid = c.unify_linked-linked.new.reps in
    let nands = c.args.facts.now.nands.now in
    let links = c.args.facts.now.links.now in
    let before = c.unify_linked-linked.ensures.progress.valid in
    let valid = valid_at (length mid) nands links mid (length c.flatten.new.reps) before (sym before.count) in
    record {
      valid = valid;
      canonical = all_implied (length mid) nands links mid c.deref.result.now valid (rw c.deref.ensures.value c.in_ok-canonical.ensures.permutation);
    }

pub returns : goal.returns
returns c = record {
  progress = elim c.if-linked.branch [
    | then-linked w ↦ either_progress (length c.args.reps.now) c.args.facts.now.nands.now c.args.facts.now.links.now c.args.reps.now c.flatten.new.reps c.unify_linked-linked.new.reps c.unify_equal-equal.new.reps c.unify_linked-linked.result c.unify_equal-equal.result _ c.flatten.ensures.kept c.unify_linked-linked.ensures.progress c.unify_equal-equal.ensures.progress (λ e. inl w.if-linked.true)
    | else-linked w ↦ either_progress (length c.args.reps.now) c.args.facts.now.nands.now c.args.facts.now.links.now c.args.reps.now c.flatten.new.reps c.unify_linked-linked.new.reps c.unify_equal-equal.new.reps c.unify_linked-linked.result c.unify_equal-equal.result _ c.flatten.ensures.kept c.unify_linked-linked.ensures.progress c.unify_equal-equal.ensures.progress (λ e. inr (sym w.result-is ∙ e))
  ];
  canonical = let mid = c.unify_linked-linked.new.reps in
      let n = length c.args.reps.now in
      let nands = c.args.facts.now.nands.now in
      let links = c.args.facts.now.links.now in
      let counts = c.unify_linked-linked.ensures.progress.valid.count ∙ c.flatten.ensures.kept.valid.count in
      all_implied n nands links mid c.in_ok-canonical.canonical.items (valid_at n nands links mid (length c.flatten.new.reps) c.unify_linked-linked.ensures.progress.valid c.flatten.ensures.kept.valid.count) c.in_ok-canonical.ensures.permutation;
  settled = let n = length c.args.reps.now in
      let nands = c.args.facts.now.nands.now in
      let links = c.args.facts.now.links.now in
      let fl = c.flatten.new.reps in
      let mid = c.unify_linked-linked.new.reps in
      let new = c.unify_equal-equal.new.reps in
      let canonical = c.in_ok-canonical.canonical.items in
      let counts = c.unify_linked-linked.ensures.progress.valid.count ∙ c.flatten.ensures.kept.valid.count in
      elim c.if-linked.branch [
        | then-linked w ↦ λ e. absurd (true≢false (sym w.if-linked.true ∙ (sym w.result-is ∙ e)))
        | else-linked w ↦ λ e.
            settled n nands links fl mid new canonical (valid_at n nands links new (length mid) c.unify_equal-equal.ensures.progress.valid counts) c.flatten.ensures.flat (c.unify_linked-linked.ensures.same w.if-linked.false c.flatten.ensures.flat) (subst (λ rs. IsFlat mid → (new ≡ mid) × ((place : ℕ) → 1 ≤ place → place < length rs → AgreesAt mid rs place)) c.deref.ensures.value (c.unify_equal-equal.ensures.same (sym w.result-is ∙ e))) c.in_ok-canonical.ensures.permutation c.in_ok-canonical.ensures.sorted
      ];
}

pub flatten-requires : goal.flatten-requires
flatten-requires c = c.requires

pub unify_linked-linked-requires : goal.unify_linked-linked-requires
unify_linked-linked-requires c =
    let flat = c.flatten.new.reps in
    let valid = c.flatten.ensures.kept.valid in
    valid_at (length flat) c.args.facts.now.nands.now c.args.facts.now.links.now flat (length c.args.reps.now) valid (sym valid.count)

pub invariant_of-sorted_facts : goal.invariant_of-sorted_facts
invariant_of-sorted_facts c = record {
  known = let valid = c.unify_linked-linked.ensures.progress.valid in
      subst (λ n. All (IsFactIn n) c.args.facts.now.nands.now) (sym valid.count) valid.nands_in;
}
