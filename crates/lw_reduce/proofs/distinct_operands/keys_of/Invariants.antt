use Rattle.std.proofs.Common.{◌≡◌, map, take}
use Rattle.lw_reduce.specs.Settling.{operands_key}
use Rattle.lw_reduce.proofs.distinct_operands.keys_of.Given as goal

abbrev pub invariant-loop-fact : goal.invariant-loop-fact
invariant-loop-fact l = l.keys.items ≡ map (operands_key l.facts.reps.now) (take l.fact-index l.facts.nands.now)
