use Rattle.std.proofs.Common.{◌≡◌, false, length}
use Rattle.std.specs.List.{AllWithin}
use Rattle.lw_reduce.specs.Representatives.{IsFlat, LinkAgrees, Progresses}
use Rattle.lw_reduce.proofs.rounds.unify_linked.Given as goal

abbrev pub invariant-loop-link : goal.invariant-loop-link
invariant-loop-link l = record {
  progress : Progresses (length l.fn.reps) l.facts.nands.now l.facts.links.now l.fn.reps l.reps l.changed;
  same : l.changed ≡ false → IsFlat l.fn.reps → (l.reps ≡ l.fn.reps) × AllWithin (LinkAgrees l.fn.reps) l.facts.links.now 0 l.link-index;
}
