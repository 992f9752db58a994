use Rattle.std.proofs.Common.{length}
use Rattle.lw_reduce.specs.Representatives.{IsFlatBelow, StayRepresentatives}
use Rattle.lw_reduce.proofs.representatives.flatten.Given as goal

abbrev pub invariant-loop-base : goal.invariant-loop-base
invariant-loop-base l = record {
  kept : StayRepresentatives (length l.fn.reps) l.facts.nands.now l.facts.links.now l.fn.reps l.reps;
  flat : IsFlatBelow l.reps l.base;
}
