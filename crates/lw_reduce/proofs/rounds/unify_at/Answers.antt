use Rattle.std.proofs.Common.{◌-◌, length, arith}
use Rattle.std.proofs.lemmas.List.Elements.{All-get_or}
use Rattle.lw_reduce.specs.Settling.{IsImplied, no_fact}
use Rattle.lw_reduce.proofs.EqualOperands.{rows_alike}
use Rattle.lw_reduce.proofs.rounds.unify_at.Goals as goal

pub unify-requires : goal.unify-requires
unify-requires c = record {
  valid = c.requires.valid;
  left = (All-get_or (IsImplied (length c.args.reps.now) c.args.facts.now.nands.now c.args.facts.now.links.now) c.args.canonical.now (c.args.place - 1) no_fact (let s = c.requires.start in let w = c.requires.within in omega arith) c.requires.canonical).within;
  right = (All-get_or (IsImplied (length c.args.reps.now) c.args.facts.now.nands.now c.args.facts.now.links.now) c.args.canonical.now c.args.place no_fact c.requires.within c.requires.canonical).within;
  alike = rows_alike (length c.args.reps.now) c.args.facts.now.nands.now c.args.facts.now.links.now c.args.canonical.now c.args.place c.requires.canonical c.requires.within c.if-first-second.false c.if-first-second-2.false;
}

pub returns : goal.returns
returns c = record {
  progress = c.unify.ensures.progress;
  same = λ e f.
      let (s, a) = c.unify.ensures.same e f in
      (s, λ l r. a);
}
