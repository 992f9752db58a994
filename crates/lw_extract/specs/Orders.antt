-- Classes by height and then number.
use Rattle.std.specs.Prelude.{ℕ, ◌≡◌, List, Contains, Option, Some, None, slice_index_or}
use Rattle.lw_pool.specs.declared.id.NetId.{NetId}
use Rattle.lw_cost.specs.declared.mark.Mark.{Mark}
use Rattle.lw_needed.specs.declared.places.Place.{Place}
use Rattle.lw_needed.specs.Places.{AreInClassOrder, AreInDepthOrder}

-- the places are those of the classes that have a mark and no net yet, each with its height for its depth
pub record ArePlaces (nets : List (Option NetId)) (marks : List (Option Mark)) (places : List Place) : Type 0 where
  pub each : (p : Place) → Contains places p → (m : Mark) × (slice_index_or marks p.class.0 None ≡ Some m)
      × (p.depth ≡ m.height) × (slice_index_or nets p.class.0 None ≡ None)
  pub all : (c : ℕ) (m : Mark) → slice_index_or marks c None ≡ Some m → slice_index_or nets c None ≡ None
      → (p : Place) × Contains places p × (p.class.0 ≡ c)

-- in the order of the classes' numbers
pub record AreMarked (nets : List (Option NetId)) (marks : List (Option Mark)) (places : List Place) : Type 0 where
  pub are : ArePlaces nets marks places
  pub rising : AreInClassOrder places

-- by height and then class
pub record AreByHeight (nets : List (Option NetId)) (marks : List (Option Mark)) (places : List Place) : Type 0 where
  pub are : ArePlaces nets marks places
  pub sorted : AreInDepthOrder places
