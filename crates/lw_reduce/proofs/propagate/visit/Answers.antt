use Rattle.std.proofs.Common.{◌/◌, ◌<◌, length, get_or, refl, sym, subst}
use Rattle.std.proofs.lemmas.List.Elements.{All-get_or}
use Rattle.lw_reduce.specs.Representatives.{IsFactIn}
use Rattle.lw_reduce.specs.Settling.{IsImplied, no_fact}
use Rattle.lw_reduce.proofs.EqualOperands.{operands_at, row_alike}
use Rattle.lw_reduce.proofs.RepSteps.{stay_none, stay_then, stay_progress, valid_at}
use Rattle.lw_reduce.proofs.propagate.visit.Goals as goal

pub invariant_of-known : goal.invariant_of-known
invariant_of-known c = record { known = All-get_or (IsFactIn (length c.args.reps.now)) c.args.facts.now.nands.now c.args.place no_fact c.requires.within c.requires.valid.nands_in }

pub returns-then-has_root_operands : goal.returns-then-has_root_operands
returns-then-has_root_operands c = record {
  kept = stay_none (length c.args.reps.now) c.args.facts.now.nands.now c.args.facts.now.links.now c.args.reps.now c.requires.valid;
  places = c.requires.places;
  len = refl;
}

pub operands_of-operands-requires : goal.operands_of-operands-requires
operands_of-operands-requires c = record {
  valid = c.requires.valid;
  within = All-get_or (IsFactIn (length c.args.reps.now)) c.args.facts.now.nands.now c.args.place no_fact c.requires.within c.requires.valid.nands_in;
}

pub unify-changed-requires : goal.unify-changed-requires
unify-changed-requires c = record {
  valid = let reps = c.operands_of-operands.new.reps in
      let valid = c.operands_of-operands.ensures.kept.valid in
      valid_at (length reps) c.args.facts.now.nands.now c.args.facts.now.links.now reps (length c.args.reps.now) valid (sym valid.count);
  left = let within = All-get_or (IsFactIn (length c.args.reps.now)) c.args.facts.now.nands.now c.args.place no_fact c.requires.within c.requires.valid.nands_in in
      subst (λ n. (get_or c.args.facts.now.nands.now c.args.place no_fact).form / 2 < n) (sym c.operands_of-operands.ensures.kept.valid.count) within.0;
  right = let implied = All-get_or (IsImplied (length c.args.reps.now) c.args.facts.now.nands.now c.args.facts.now.links.now) c.args.canonical.now c.in-Some.found no_fact c.in-Some.ensures.within c.requires.canonical in
      subst (λ n. (get_or c.args.canonical.now c.in-Some.found no_fact).form / 2 < n) (sym c.operands_of-operands.ensures.kept.valid.count) implied.within;
  alike = row_alike (length c.args.reps.now) (length c.operands_of-operands.new.reps) c.args.facts.now.nands.now c.args.facts.now.links.now c.args.canonical.now c.args.place c.operands_of-operands.result.low c.operands_of-operands.result.high c.in-Some.found c.operands_of-operands.ensures.kept.valid.count c.requires.canonical c.requires.within c.in-Some.ensures.within c.in-Some.ensures.left c.in-Some.ensures.right c.operands_of-operands.ensures.operands;
}

pub returns-in-Some : goal.returns-in-Some
returns-in-Some c = record {
  kept = stay_progress (length c.args.reps.now) c.args.facts.now.nands.now c.args.facts.now.links.now c.args.reps.now c.operands_of-operands.new.reps c.unify-changed.new.reps c.unify-changed.result c.operands_of-operands.ensures.kept c.unify-changed.ensures.progress;
  places = c.requires.places;
  len = refl;
}

pub insert_fact-requires : goal.insert_fact-requires
insert_fact-requires c = record {
  valid = let reps = c.operands_of-operands.new.reps in
      let valid = c.operands_of-operands.ensures.kept.valid in
      valid_at (length reps) c.args.facts.now.nands.now c.args.facts.now.links.now reps (length c.args.reps.now) valid (sym valid.count);
  some = c.requires.some;
  places = c.requires.places;
  within = c.requires.within;
  few = c.requires.few;
  operands = operands_at (length c.args.reps.now) (length c.operands_of-operands.new.reps) c.args.facts.now.nands.now c.args.facts.now.links.now (get_or c.args.facts.now.nands.now c.args.place no_fact) c.operands_of-operands.result.low c.operands_of-operands.result.high c.operands_of-operands.ensures.kept.valid.count c.operands_of-operands.ensures.operands;
}

pub returns : goal.returns
returns c = record {
  kept = stay_then (length c.args.reps.now) c.args.facts.now.nands.now c.args.facts.now.links.now c.args.reps.now c.operands_of-operands.new.reps c.insert_fact.new.reps c.operands_of-operands.ensures.kept c.insert_fact.ensures.kept;
  places = c.insert_fact.ensures.places;
  len = c.insert_fact.ensures.len;
}
