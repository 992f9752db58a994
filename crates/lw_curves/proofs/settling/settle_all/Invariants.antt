use Rattle.std.proofs.Common.{ℕ, ◌≡◌, ◌≤◌, length, max}
use Rattle.lw_curves.specs.Setups.{AreTalliedIn, HaveGainedAll, WhereStill, turns_in}
use Rattle.lw_curves.specs.SeenAreas.{AreSeen}
use Rattle.lw_curves.specs.Settling.{IsStillFor}
use Rattle.lw_queue.proofs.Queueing.{most_left}
use Rattle.lw_curves.proofs.settling.settle_all.Given as goal

abbrev pub invariant-loop-time : goal.invariant-loop-time
invariant-loop-time l = record {
  gained : HaveGainedAll l.setup l.initial.fronts l.fronts l.initial.coming l.initial.queue;
  count : length l.fronts.least ≡ length l.initial.fronts.least;
  horizon : l.coming.horizon ≡ l.initial.coming.horizon;
  tallied : AreTalliedIn l.setup l.seen;
  seen : AreSeen l.setup.pin_groups.now l.seen.areas.items l.fronts.spots l.coming;
  still : WhereStill l.setup 0 l.initial.fronts.spots (turns_in l.setup l.initial.coming l.initial.queue) (λ s choices. (now : ℕ) × (now ≤ l.initial.coming.horizon) × IsStillFor s choices now l.fronts.spots (turns_in l.setup l.coming l.queue));
}

abbrev pub decreases-loop-time : goal.decreases-loop-time
decreases-loop-time l = max (most_left l.coming.items) (most_left l.queue.items)
