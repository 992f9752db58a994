-- The last of some points by a time.
use Rattle.std.specs.Prelude.{ℕ, ◌+◌, ◌<◌, ◌≤◌, ◌≡◌, List, Option, Some, None, slice_get}
use Rattle.lw_curves.specs.declared.point.Point.{Point}

abbrev pub ArePointsRising : List Point → Type 0
ArePointsRising ps =
    (i j : ℕ) (p q : Point) → i < j → slice_get ps i ≡ Some p → slice_get ps j ≡ Some q → p.time.0 < q.time.0

-- the row of a class, by rising time
pub record IsRowAt (rows : List (List Point)) (c : ℕ) (row : List Point) : Type 0 where
  pub points : slice_get rows c ≡ Some row
  pub rising : ArePointsRising row

-- the point at the place comes by the time, with the delay, and none behind it does
pub record IsLastIn (ps : List Point) (delay time place : ℕ) : Type 0 where
  pub point : Point
  pub at : slice_get ps place ≡ Some point
  pub in_time : point.time.0 + delay ≤ time
  pub last : (j : ℕ) (q : Point) → slice_get ps j ≡ Some q → q.time.0 + delay ≤ time → j ≤ place

-- the place of the last one, and none where none comes by the time
abbrev pub IsLastPlace : List Point → ℕ → ℕ → Option ℕ → Type 0
IsLastPlace ps delay time None =
    (j : ℕ) (q : Point) → slice_get ps j ≡ Some q → q.time.0 + delay ≤ time → ⊥
IsLastPlace ps delay time (Some place) = IsLastIn ps delay time place

-- the place of the last one in the row of a class, and none where there is no such class either
abbrev pub IsLastOf : List (List Point) → ℕ → ℕ → ℕ → Option ℕ → Type 0
IsLastOf rows c delay time None =
    (row : List Point) → slice_get rows c ≡ Some row → IsLastPlace row delay time None
IsLastOf rows c delay time (Some place) =
    (row : List Point) × (slice_get rows c ≡ Some row) × IsLastIn row delay time place
