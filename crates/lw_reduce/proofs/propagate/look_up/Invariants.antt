use Rattle.std.proofs.Common.{◌<◌, length}
use Rattle.lw_reduce.specs.Representatives.{StayRepresentatives}
use Rattle.lw_reduce.proofs.propagate.look_up.Given as goal

abbrev pub invariant-loop-step : goal.invariant-loop-step
invariant-loop-step l = record {
  kept : StayRepresentatives (length l.fn.reps) l.facts.nands.now l.facts.links.now l.fn.reps l.reps;
  within : l.slot < length l.slots;
}
