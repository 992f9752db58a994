use Rattle.std.proofs.Common.{◌≡◌, ◌++◌, map, take, drop}
use Rattle.lw_reduce.specs.Settling.{canonical_fact}
use Rattle.lw_reduce.proofs.class_facts.canonicalize_all.Given as goal

abbrev pub invariant-loop-fact : goal.invariant-loop-fact
invariant-loop-fact l = l.facts ≡ map (canonical_fact l.forms) (take l.fact-index l.fn.facts) ++ drop l.fact-index l.fn.facts
