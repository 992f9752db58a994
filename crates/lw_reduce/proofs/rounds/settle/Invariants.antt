use Rattle.std.proofs.Common.{length}
use Rattle.lw_reduce.specs.Representatives.{AreRepresentatives, rep_weight}
use Rattle.lw_reduce.proofs.rounds.settle.Given as goal

abbrev pub invariant-rounds : goal.invariant-rounds
invariant-rounds l = AreRepresentatives (length l.fn.reps) l.facts.nands.now l.facts.links.now l.reps

abbrev pub decreases-rounds : goal.decreases-rounds
decreases-rounds l = rep_weight l.reps
