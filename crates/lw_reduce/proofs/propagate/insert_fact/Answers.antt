use Rattle.std.proofs.Common.{◌/◌, ◌+◌, ◌<◌, ◌≤◌, arith, get_or, length, refl, sym, subst}
use Rattle.std.proofs.lemmas.List.{length-set}
use Rattle.std.proofs.lemmas.List.Elements.{All-contains, All-get_or, All-set}
use Rattle.lw_reduce.specs.declared.facts.Fact.{Fact}
use Rattle.lw_reduce.specs.Representatives.{IsFactIn}
use Rattle.lw_reduce.proofs.EqualOperands.{lookup_alike}
use Rattle.lw_reduce.proofs.RepSteps.{stay_progress, valid_at}
use Rattle.lw_reduce.proofs.propagate.insert_fact.Goals as goal

pub look_up-requires : goal.look_up-requires
look_up-requires c = record {
  valid = c.requires.valid;
  some = c.requires.some;
  places = c.requires.places;
}

pub unify-changed-requires : goal.unify-changed-requires
unify-changed-requires c = record {
  valid = let reps = c.look_up.new.reps in
      let valid = c.in-Form.ensures.kept.valid in
      valid_at (length reps) c.args.facts.now.nands.now c.args.facts.now.links.now reps (length c.args.reps.now) valid (sym valid.count);
  left = let none : Fact = record { form = 0; left = 0; right = 0 } in
      let within = All-get_or (IsFactIn (length c.args.reps.now)) c.args.facts.now.nands.now c.args.place none c.requires.within c.requires.valid.nands_in in
      subst (λ n. (get_or c.args.facts.now.nands.now c.args.place none).form / 2 < n) (sym c.in-Form.ensures.kept.valid.count) within.0;
  right =
      let (p, listed, operands, is) = c.in-Form.ensures.found in
      let within = All-contains (IsFactIn (length c.args.reps.now)) c.args.facts.now.nands.now p c.requires.valid.nands_in listed in
      subst (λ m. c.in-Form.form / 2 < m) (sym c.in-Form.ensures.kept.valid.count) (subst (λ f. f / 2 < length c.args.reps.now) is within.0);
  alike = let n = length c.args.reps.now in
      lookup_alike n n (length c.look_up.new.reps) c.args.facts.now.nands.now c.args.facts.now.links.now c.args.place c.args.operands.low c.args.operands.high c.in-Form.form (record { form = 0; left = 0; right = 0 }) refl c.in-Form.ensures.kept.valid.count c.requires.within c.requires.operands c.in-Form.ensures.found;
}

pub returns-in-Form : goal.returns-in-Form
returns-in-Form c = record {
  kept = stay_progress (length c.args.reps.now) c.args.facts.now.nands.now c.args.facts.now.links.now c.args.reps.now c.look_up.new.reps c.unify-changed.new.reps c.unify-changed.result c.in-Form.ensures.kept c.unify-changed.ensures.progress;
  places = c.requires.places;
  len = refl;
}

pub returns-in-Free : goal.returns-in-Free
returns-in-Free c = record {
  kept = c.in-Free.ensures.kept;
  places = All-set (λ e. e ≤ length c.args.facts.now.nands.now) c.args.slots.now c.in-Free.slot (c.args.place + 1) (let lt = c.requires.within in omega arith) c.requires.places;
  len = length-set c.args.slots.now c.in-Free.slot (c.args.place + 1);
}

pub returns-in-Full : goal.returns-in-Full
returns-in-Full c = record {
  kept = c.in-Full.ensures.kept;
  places = c.requires.places;
  len = refl;
}
