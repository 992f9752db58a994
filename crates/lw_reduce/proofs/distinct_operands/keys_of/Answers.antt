use Rattle.std.proofs.Common.{[], ◌∷◌, ◌++◌, sym, ap₂, ◌∙◌}
use Rattle.std.proofs.lemmas.List.{map_more}
use Rattle.lw_reduce.specs.Settling.{operands_key, no_fact}
use Rattle.lw_reduce.proofs.distinct_operands.keys_of.Goals as goal

pub invariant_of-known : goal.invariant_of-known
invariant_of-known c = record { known = c.args.facts.now.known c.loop-fact.fact-index no_fact c.loop-fact-test.true }

pub loop-fact-preserved : goal.loop-fact-preserved
loop-fact-preserved c =
    c.in_ok-push.ensures.items
    ∙ (ap₂ (λ l f. l ++ f ∷ []) c.loop-fact.invariant c.key_of.ensures
    ∙ sym (map_more (operands_key c.args.facts.now.reps.now) c.args.facts.now.nands.now c.loop-fact.fact-index no_fact c.loop-fact-test.true))
