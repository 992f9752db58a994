use Rattle.std.proofs.Common.{◌≡◌, length}
use Rattle.lw_curves.specs.Setups.{WhereStill, turns_in}
use Rattle.lw_curves.specs.Settling.{IsStillFor}
use Rattle.lw_curves.proofs.settling.next_gain.Given as goal

abbrev pub invariant-loop-number : goal.invariant-loop-number
invariant-loop-number l = record {
  fronts : l.fronts ≡ l.initial.fronts;
  still : WhereStill l.setup l.time l.initial.fronts.spots (turns_in l.setup l.coming l.initial.queue) (λ s choices. IsStillFor s choices l.time l.initial.fronts.spots (turns_in l.setup l.coming l.queue));
}

abbrev pub decreases-loop-number : goal.decreases-loop-number
decreases-loop-number l = length l.queue.items
