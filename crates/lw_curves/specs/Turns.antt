-- When groups of pins come, and what waits with them.
use Rattle.std.specs.Prelude.{ℕ, ◌+◌, ◌≡◌, Some, slice_get}
use Rattle.lw_choices.specs.declared.pin_groups.PinGroups.{PinGroups}
use Rattle.lw_queue.specs.Queues.{Queued}
use Rattle.lw_curves.specs.Settling.{Turns, turns, IsLetWait}

-- the group comes by its delay after a time, unless that is past the horizon
abbrev pub ComesAfter : PinGroups → ℕ → ℕ → Queued → Queued → Type 0
ComesAfter u group time old new =
    (delay : ℕ) → slice_get u.delays.items group ≡ Some delay → IsLetWait old new (time + delay) group

-- what waits and comes with these groups
abbrev pub turns_of : PinGroups → Queued → Queued → Turns
turns_of u coming looked = turns u.members.classes u.owners.items u.members.count coming looked
