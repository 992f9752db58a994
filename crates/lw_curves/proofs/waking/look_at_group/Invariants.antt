use Rattle.std.proofs.Common.{◌≡◌}
use Rattle.lw_curves.specs.Setups.{ForAnyTask}
use Rattle.lw_curves.specs.SeenAreas.{HasUnseen}
use Rattle.lw_curves.proofs.LookedAt.{IsLooking}
use Rattle.lw_curves.proofs.waking.look_at_group.Given as goal

abbrev pub invariant-loop-place : goal.invariant-loop-place
invariant-loop-place l = record {
  horizon : l.queue.horizon ≡ l.initial.queue.horizon;
  looking : ForAnyTask l.at.setup.now (λ s choices. IsLooking s choices l.at.fronts.now.spots (HasUnseen l.at.setup.now.pin_groups.now l.at.seen.now.areas.items l.at.fronts.now.spots l.time) l.at.setup.now.pin_groups.now.by_group.numbers.items l.first l.initial.queue l.queue l.time l.place);
}
