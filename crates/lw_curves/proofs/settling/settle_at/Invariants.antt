use Rattle.std.proofs.Common.{◌≡◌, length}
use Rattle.lw_choices.specs.Areas.{total}
use Rattle.lw_curves.specs.Setups.{AreTalliedIn, StayBacked, WhereStill, turns_in}
use Rattle.lw_curves.specs.SeenAreas.{AreSeen}
use Rattle.lw_curves.specs.Settling.{IsStillFor}
use Rattle.lw_curves.proofs.settling.settle_at.Given as goal

abbrev pub invariant-loop-class : goal.invariant-loop-class
invariant-loop-class l = record {
  count : length l.fronts.least ≡ length l.initial.fronts.least;
  horizon : l.coming.horizon ≡ l.initial.coming.horizon;
  tallied : AreTalliedIn l.setup l.seen;
  seen : AreSeen l.setup.pin_groups.now l.seen.areas.items l.fronts.spots l.coming;
  still : WhereStill l.setup l.time l.initial.fronts.spots (turns_in l.setup l.initial.coming l.initial.queue) (λ s choices. IsStillFor s choices l.time l.fronts.spots (turns_in l.setup l.coming l.queue));
  backed : StayBacked l.setup l.time l.initial.fronts l.fronts l.initial.coming l.initial.queue;
}

abbrev pub decreases-loop-class : goal.decreases-loop-class
decreases-loop-class l = total l.fronts.least
