-- What the groups of pins have seen: the least area of the points of their class that came.
use Rattle.std.specs.Prelude.{ℕ, zero, suc, ◌+◌, ◌≤◌, ◌≡◌, ◌⊎◌, min, List, length, Option, Some, None, slice_get}
use Rattle.std.specs.Prelude.{slice_index_or}
use Rattle.lw_pool.specs.declared.id.ClassId.{ClassId}
use Rattle.lw_choices.specs.declared.pin_groups.PinGroups.{PinGroups}
use Rattle.lw_choices.specs.Areas.{most_area}
use Rattle.lw_curves.specs.Settling.{Spot, spot, Has, IsGained}
use Rattle.lw_queue.specs.Queues.{Queued, Waits}
use Rattle.lw_choices.specs.PinGroups.{IsGroup}

-- the group has seen an area of no more than this
abbrev pub HasSeen : List ℕ → ℕ → ℕ → Type 0
HasSeen seen g area =
    (own : ℕ) × (slice_get seen g ≡ Some own) × (own ≤ min most_area area)

-- each group has seen the points of its class, but for those that it comes for
abbrev pub AreSeen : PinGroups → List ℕ → List Spot → Queued → Type 0
AreSeen u seen spots coming =
    (k : Spot) (g delay : ℕ) → Has spots k → IsGroup u.links.classes u.delays.items k.class delay g
    → k.time + delay ≤ coming.horizon → HasSeen seen g k.area ⊎ Waits coming (k.time + delay) g

-- Each group has seen the points of its class, but for those that it comes for, and for a point that a class has gained
-- at a time for which no group comes yet.
abbrev pub AreSeenAfter : PinGroups → List ℕ → List Spot → Queued → ℕ → Option ClassId → Type 0
AreSeenAfter u seen spots coming time None = AreSeen u seen spots coming
AreSeenAfter u seen spots coming time (Some class) =
    (old : List Spot) × (area : ℕ) × AreSeen u seen old coming × IsGained old spots (spot class.0 time area)

-- a group sees the points of its class by a time, and none has seen less than before
pub record IsSeeing (u : PinGroups) (spots : List Spot) (old new : List ℕ) (group time : ℕ) : Type 0 where
  pub one_each : length new ≡ length old
  pub kept : (g area : ℕ) → HasSeen old g area → HasSeen new g area
  pub here : (k : Spot) (delay : ℕ) → Has spots k → IsGroup u.links.classes u.delays.items k.class delay group
      → k.time + delay ≤ time → HasSeen new group k.area

-- a point of a pin's class that the pin's group has not seen, in time for the choice
pub record HasUnseen (u : PinGroups) (seen : List ℕ) (spots : List Spot) (time n : ℕ) : Type 0 where
  pub point : Spot
  pub has : Has spots point
  pub group : ℕ
  pub delay : ℕ
  pub group_is : IsGroup u.links.classes u.delays.items point.class delay group
  pub in_time : point.time + delay ≤ time
  pub place : ℕ
  pub member : slice_get u.members.classes place ≡ Some group
  pub owner : slice_get u.owners.items place ≡ Some n
  pub unseen : HasSeen seen group point.area → ⊥

-- what the group of the pin at a place has seen
abbrev pub seen_at : List ℕ → List ℕ → ℕ → ℕ
seen_at groups seen place = slice_index_or seen (slice_index_or groups place 0) 0

-- those of so many pins from a place on together
abbrev pub sum_seen : List ℕ → List ℕ → ℕ → ℕ → ℕ
sum_seen groups seen place zero = 0
sum_seen groups seen place (suc n) = seen_at groups seen place + sum_seen groups seen (place + 1) n
