use Rattle.std.proofs.Common.{◌≤◌, length, All}
use Rattle.lw_reduce.specs.Representatives.{StayRepresentatives}
use Rattle.lw_reduce.specs.Settling.{IsImplied}
use Rattle.lw_reduce.proofs.propagate.visit_all.Given as goal

abbrev pub invariant-loop-step : goal.invariant-loop-step
invariant-loop-step l = record {
  kept : StayRepresentatives (length l.fn.reps) l.facts.nands.now l.facts.links.now l.fn.reps l.reps;
  places : All (λ e. e ≤ length l.facts.nands.now) l.slots;
  canonical : All (IsImplied (length l.reps) l.facts.nands.now l.facts.links.now) l.canonical;
}

abbrev pub invariant-loop-step-2 : goal.invariant-loop-step-2
invariant-loop-step-2 l = record {
  kept : StayRepresentatives (length l.fn.reps) l.facts.nands.now l.facts.links.now l.fn.reps l.reps;
  places : All (λ e. e ≤ length l.facts.nands.now) l.slots;
  canonical : All (IsImplied (length l.reps) l.facts.nands.now l.facts.links.now) l.canonical;
}
