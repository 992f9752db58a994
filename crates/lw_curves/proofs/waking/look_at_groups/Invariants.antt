use Rattle.std.proofs.Common.{◌≡◌, length}
use Rattle.lw_curves.specs.Setups.{AreTalliedIn, WhereStill, turns_in}
use Rattle.lw_curves.specs.SeenAreas.{AreSeen}
use Rattle.lw_curves.specs.Settling.{IsStillFor}
use Rattle.lw_curves.proofs.waking.look_at_groups.Given as goal

abbrev pub invariant-loop-place : goal.invariant-loop-place
invariant-loop-place l = record {
  horizon : l.coming.horizon ≡ l.initial.coming.horizon;
  tallied : AreTalliedIn l.setup l.seen;
  seen : AreSeen l.setup.pin_groups.now l.seen.areas.items l.fronts.spots l.coming;
  still : WhereStill l.setup l.time l.fronts.spots (turns_in l.setup l.initial.coming l.initial.queue) (λ s choices. IsStillFor s choices l.time l.fronts.spots (turns_in l.setup l.coming l.queue));
}

abbrev pub decreases-loop-place : goal.decreases-loop-place
decreases-loop-place l = length l.coming.items
