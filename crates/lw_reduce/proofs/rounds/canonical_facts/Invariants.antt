use Rattle.std.proofs.Common.{◌≡◌, map, take}
use Rattle.lw_reduce.specs.Settling.{canonical_fact}
use Rattle.lw_reduce.proofs.rounds.canonical_facts.Given as goal

abbrev pub invariant-loop-fact : goal.invariant-loop-fact
invariant-loop-fact l = l.canonical.items ≡ map (canonical_fact l.facts.reps.now) (take l.fact-index l.facts.nands.now)
