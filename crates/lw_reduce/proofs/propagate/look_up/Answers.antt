use Rattle.std.proofs.Common.{length, refl, sym, subst, arith}
use Rattle.std.proofs.lemmas.List.Elements.{All-contains}
use Rattle.lw_reduce.specs.Representatives.{HasOperands, IsFactIn}
use Rattle.lw_reduce.proofs.EqualOperands.{entry_listed}
use Rattle.lw_reduce.proofs.RepSteps.{stay_none, stay_then, valid_at}
use Rattle.lw_reduce.proofs.propagate.look_up.Goals as goal

pub loop-step-init : goal.loop-step-init
loop-step-init c = record {
  kept = stay_none (length c.args.reps.now) c.args.facts.now.nands.now c.args.facts.now.links.now c.args.reps.now c.requires.valid;
  within = let le = c.slot_of-slot.ensures in let some = c.requires.some in omega (arith, le, some);
}

pub fact_in-requires-clause-places : goal.fact_in-requires-clause-places
fact_in-requires-clause-places c = c.requires.places

pub fact_in-requires-clause-within : goal.fact_in-requires-clause-within
fact_in-requires-clause-within c = c.loop-step.invariant.within

pub returns-in_default : goal.returns-in_default
returns-in_default c = record {
  kept = c.loop-step.invariant.kept;
  found = c.loop-step.invariant.within;
}

pub has_operands-requires : goal.has_operands-requires
has_operands-requires c =
    let reps = c.loop-step.reps in
    let nands = c.args.facts.now.nands.now in
    let valid = c.loop-step.invariant.kept.valid in
    record {
      valid = valid_at (length reps) nands c.args.facts.now.links.now reps (length c.args.reps.now) valid (sym valid.count);
      within = subst (λ n. IsFactIn n c.in-Some.fact) (sym valid.count) (All-contains (IsFactIn (length c.args.reps.now)) nands c.in-Some.fact valid.nands_in (entry_listed nands _ c.in-Some.fact c.in-Some.ensures));
    }

pub returns-then-has_operands : goal.returns-then-has_operands
returns-then-has_operands c =
    let nands = c.args.facts.now.nands.now in
    let links = c.args.facts.now.links.now in
    let fact = c.in-Some.fact in
    let count = c.loop-step.invariant.kept.valid.count in
    record {
      kept = stay_then (length c.args.reps.now) nands links c.args.reps.now c.loop-step.reps c.has_operands.new.reps c.loop-step.invariant.kept c.has_operands.ensures.kept;
      found = (fact, entry_listed nands _ fact c.in-Some.ensures, subst (λ n. HasOperands n nands links fact c.args.operands.low c.args.operands.high) count (c.has_operands.ensures.operands c.if-has_operands.true), refl);
    }

pub loop-step-preserved : goal.loop-step-preserved
loop-step-preserved c = record {
  kept = stay_then (length c.args.reps.now) c.args.facts.now.nands.now c.args.facts.now.links.now c.args.reps.now c.loop-step.reps c.has_operands.new.reps c.loop-step.invariant.kept c.has_operands.ensures.kept;
  within = let le = c.next_slot-slot.ensures in let some = c.requires.some in omega (arith, le, some);
}

pub returns : goal.returns
returns c = record {
  kept = c.loop-step.invariant.kept;
  found = tt;
}
