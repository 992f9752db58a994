use Rattle.std.proofs.Common.{length, sym, subst, arith, All}
use Rattle.lw_reduce.specs.Representatives.{Progresses}
use Rattle.lw_reduce.specs.Settling.{IsImplied}
use Rattle.lw_reduce.proofs.RepSteps.{valid_at, falls_then, stays_valid}
use Rattle.lw_reduce.proofs.SettledReps.{settled_by_rows, settled_from}
use Rattle.lw_reduce.proofs.rounds.settle.Goals as goal

pub unify_linked-linked-requires : goal.unify_linked-linked-requires
unify_linked-linked-requires c = c.requires.valid

pub are_settled-requires : goal.are_settled-requires
are_settled-requires c =
    let mid = c.unify_linked-linked.new.reps in
    let valid = c.unify_linked-linked.ensures.progress.valid in
    valid_at (length mid) c.args.facts.now.nands.now c.args.facts.now.links.now mid (length c.args.reps.now) valid (sym valid.count)

pub returns-then-branch : goal.returns-then-branch
returns-then-branch c =
    settled_from (length c.unify_linked-linked.new.reps) (length c.args.reps.now) c.args.facts.now.nands.now c.args.facts.now.links.now c.are_settled.new.reps c.unify_linked-linked.ensures.progress.valid.count (c.in_ok-are_settled.ensures.settled c.if-branch.true)

pub rounds-init : goal.rounds-init
rounds-init c =
    valid_at (length c.args.reps.now) c.args.facts.now.nands.now c.args.facts.now.links.now c.are_settled.new.reps (length c.unify_linked-linked.new.reps) c.in_ok-are_settled.ensures.valid c.unify_linked-linked.ensures.progress.valid.count

pub run_round-requires : goal.run_round-requires
run_round-requires c =
    let reps = c.rounds.reps in
    valid_at (length reps) c.args.facts.now.nands.now c.args.facts.now.links.now reps (length c.args.reps.now) c.rounds.invariant (sym c.rounds.invariant.count)

pub returns-then-not-outcome : goal.returns-then-not-outcome
returns-then-not-outcome c =
    let m = length c.rounds.reps in
    let nands = c.args.facts.now.nands.now in
    let links = c.args.facts.now.links.now in
    let reps = c.run_round.new.reps in
    let count = c.rounds.invariant.count in
    let few = c.requires.few in
    let is = c.in_ok-outcome.ensures.settled c.if-not-outcome.true in
    settled_from m (length c.args.reps.now) nands links reps count (settled_by_rows m nands links reps c.in_ok-outcome.outcome.canonical.items is (omega arith))

pub propagate-requires : goal.propagate-requires
propagate-requires c =
    let nands = c.args.facts.now.nands.now in
    let links = c.args.facts.now.links.now in
    let reps = c.run_round.new.reps in
    let valid = c.in_ok-outcome.ensures.progress.valid in
    let all = subst (λ rs. All (IsImplied (length c.rounds.reps) nands links) rs) (sym c.deref.ensures.value) c.in_ok-outcome.ensures.canonical in
    record {
      valid = valid_at (length reps) nands links reps (length c.rounds.reps) valid (sym valid.count);
      canonical = subst (λ n. All (IsImplied n nands links) c.deref.result.now) (sym valid.count) all;
    }

pub rounds-smaller : goal.rounds-smaller
rounds-smaller c =
    let m = length c.rounds.reps in
    let nands = c.args.facts.now.nands.now in
    let links = c.args.facts.now.links.now in
    let reps = c.run_round.new.reps in
    falls_then m nands links c.rounds.reps reps c.propagate.new.reps (subst (λ b. Progresses m nands links c.rounds.reps reps b) c.if-not-outcome.false c.in_ok-outcome.ensures.progress) c.propagate.ensures

pub rounds-preserved : goal.rounds-preserved
rounds-preserved c =
    stays_valid (length c.args.reps.now) (length c.rounds.reps) c.args.facts.now.nands.now c.args.facts.now.links.now c.run_round.new.reps c.propagate.new.reps c.in_ok-outcome.ensures.progress.valid c.rounds.invariant.count c.propagate.ensures
