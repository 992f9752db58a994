-- The least area of the covers of a class by a time, and the times at which it falls.
use Rattle.std.specs.Prelude.{ℕ, ◌<◌, ◌≤◌, ◌≡◌, ◌+◌, ◌^◌, List, [], ◌∷◌, length, Some, Contains, slice_get}
use Rattle.lw_laws.specs.Covers.{Cover, time_of}
use Rattle.lw_curves.specs.declared.point.Point.{Point}
use Rattle.lw_curves.specs.declared.point.CurveFault.{CurveFault}
use Rattle.lw_curves.specs.declared.point.CurveFault.TheVariants.{Limit, Memory}
use Rattle.lw_choices.specs.Tasks.{Task, timing, IsCoverBy, area_of, IsLeastAreaBy}

-- horizons are below this
abbrev pub time_limit : ℕ
time_limit = 2 ^ 63

-- the least area by this time is smaller than by each earlier time
pub record IsPoint (s : Task) (c : ℕ) (p : Point) : Type 0 where
  pub least : IsLeastAreaBy s c p.time.0 (Some p.area)
  pub falls : (time area : ℕ) → time < p.time.0 → IsLeastAreaBy s c time (Some area) → p.area < area

-- points of the class up to the horizon, by rising time
pub record ArePoints (s : Task) (c horizon : ℕ) (points : List Point) : Type 0 where
  pub each : (p : Point) → Contains points p → IsPoint s c p × (p.time.0 ≤ horizon)
  pub rising : (i j : ℕ) (p q : Point) → i < j → slice_get points i ≡ Some p → slice_get points j ≡ Some q
      → p.time.0 < q.time.0

-- all of them
pub record IsCurve (s : Task) (c horizon : ℕ) (points : List Point) : Type 0 where
  pub are : ArePoints s c horizon points
  pub all : (p : Point) → IsPoint s c p → p.time.0 ≤ horizon → Contains points p

-- the points of each class up to the horizon
pub record AreCurves (s : Task) (horizon : ℕ) (curves : List (List Point)) : Type 0 where
  pub one_each : length curves ≡ length s.graph.pairs
  pub each : (c : ℕ) (points : List Point) → slice_get curves c ≡ Some points → IsCurve s c horizon points

abbrev pub point_count : List (List Point) → ℕ
point_count [] = 0
point_count (points ∷ curves) = length points + point_count curves

-- how many points all classes have together at most
abbrev pub most_points : ℕ
most_points = 8000000

-- all classes together have more points up to the horizon
pub record AreTooMany (s : Task) (horizon : ℕ) : Type 0 where
  pub points : List (List Point)
  pub each : (c : ℕ) (ps : List Point) → slice_get points c ≡ Some ps → ArePoints s c horizon ps
  pub many : most_points < point_count points

-- why there are no curves
abbrev pub IsWhy : Task → ℕ → CurveFault → Type 0
IsWhy s horizon Limit = AreTooMany s horizon
IsWhy s horizon Memory = Unit {0}

-- each cover that arrives by the horizon has a point of its class that is no later and has no more area
abbrev pub BoundCovers : Task → ℕ → List (List Point) → Type 0
BoundCovers s horizon curves =
    (c : ℕ) (k : Cover) → IsCoverBy s c horizon k → (row : List Point) × (p : Point) × (slice_get curves c ≡ Some row)
    × Contains row p × (p.time.0 ≤ time_of (timing s) k) × (p.area ≤ area_of s k)
