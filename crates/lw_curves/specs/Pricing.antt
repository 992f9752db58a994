-- The least area that the points of some pins give together.
use Rattle.std.specs.Prelude.{ℕ, ◌≤◌, ◌≡◌, min, List, Option, Some, None}
use Rattle.std.specs.List.{AllZip}
use Rattle.lw_laws.specs.Covers.{latest}
use Rattle.lw_choices.specs.Areas.{most_area, total}
use Rattle.lw_curves.specs.Settling.{Spot, IsSpotOf, times, areas}

-- points of the pins with which the cell arrives by the time
pub record ArePinSpots (spots : List Spot) (ds ps : List ℕ) (time : ℕ) (ks : List Spot) : Type 0 where
  pub each : AllZip (IsSpotOf spots) ps ks
  pub in_time : latest ds (times ks) ≤ time

-- the least area of such points, cut at the greatest, and none where there are none
abbrev pub IsBestOfPins : List Spot → List ℕ → List ℕ → ℕ → Option ℕ → Type 0
IsBestOfPins spots ds ps time None = (ks : List Spot) → ArePinSpots spots ds ps time ks → ⊥
IsBestOfPins spots ds ps time (Some area) =
    ((ks : List Spot) × ArePinSpots spots ds ps time ks × (area ≡ min most_area (total (areas ks))))
    × ((ks : List Spot) → ArePinSpots spots ds ps time ks → area ≤ total (areas ks))
