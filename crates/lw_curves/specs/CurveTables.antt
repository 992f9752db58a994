-- Points by class, one class after the other.
use Rattle.std.specs.Prelude.{ℕ, ◌+◌, ◌-◌, ◌<◌, ◌≤◌, ◌≡◌, List, [], ◌∷◌, ◌++◌, length, map, reverse, Some, Contains}
use Rattle.std.specs.Prelude.{slice_get, slice_range}
use Rattle.lw_curves.specs.declared.point.Way.{Way}
use Rattle.lw_curves.specs.declared.point.Point.{Point}
use Rattle.lw_curves.specs.Backing.{Held, IsHeld, AreBacked, spot_in}
use Rattle.lw_choices.specs.Choices.{Choice, AreListedChoices}
use Rattle.lw_curves.specs.Fronts.{FrontState}
use Rattle.lw_curves.specs.Lasts.{ArePointsRising}
use Rattle.lw_choices.specs.Tasks.{Task}
use Rattle.lw_curves.specs.Settling.{AreApart, Spot, spot, Has}
use Rattle.lw_choices.specs.declared.rows.Stand.{Stand}
use Rattle.lw_choices.specs.declared.rows.Stand.TheVariants as stand
use Rattle.lw_choices.specs.Stands.{plain_part}

abbrev pub point_of : Spot → Point
point_of k = record { time = record { 0 = k.time }; area = k.area }

abbrev pub point_in : Held → Point
point_in h = point_of h.spot

abbrev pub way_in : Held → Way
way_in h = record { order = h.order; choice = h.choice }

-- the points of the class, by rising time
pub record IsRow (spots : List Spot) (c : ℕ) (row : List Point) : Type 0 where
  pub each : (p : Point) → Contains row p → Has spots (spot c p.time.0 p.area)
  pub all : (k : Spot) → Has spots k → k.class ≡ c → Contains row (point_of k)
  pub rising : (i j : ℕ) (p q : Point) → i < j → slice_get row i ≡ Some p → slice_get row j ≡ Some q
      → p.time.0 < q.time.0

-- the points of the class with their choices, by rising time
pub record IsHeldRow (held : List Held) (c : ℕ) (row : List Held) : Type 0 where
  pub each : (h : Held) → IsHeld row h → IsHeld held h × (h.spot.class ≡ c)
  pub all : (h : Held) → IsHeld held h → h.spot.class ≡ c → IsHeld row h
  pub rising : (i j : ℕ) (g h : Held) → i < j → slice_get row i ≡ Some g → slice_get row j ≡ Some h
      → g.spot.time < h.spot.time

-- the points of the class and how they came are put behind others, the last one first
pub record IsRowPushed (held : List Held) (c : ℕ) (points new_points : List Point)
    (ways new_ways : List Way) : Type 0 where
  pub row : List Held
  pub is : IsHeldRow held c row
  pub points_are : reverse new_points ≡ map point_in row ++ reverse points
  pub ways_are : reverse new_ways ≡ map way_in row ++ reverse ways

-- a row for each class from a first one on
pub record AreRows (spots : List Spot) (count first : ℕ) (rows : List (List Point)) : Type 0 where
  pub one_each : first + length rows ≡ count
  pub each : (i : ℕ) (row : List Point) → slice_get rows i ≡ Some row → IsRow spots (first + i) row

pub record AreHeldRows (held : List Held) (count first : ℕ) (rows : List (List Held)) : Type 0 where
  pub one_each : first + length rows ≡ count
  pub each : (i : ℕ) (row : List Held) → slice_get rows i ≡ Some row → IsHeldRow held (first + i) row

-- how many points are left from the start of each row on: never more than before
abbrev pub AreLefts : ℕ → List ℕ → Type 0
AreLefts most [] = Unit {0}
AreLefts most (left ∷ lefts) = (left ≤ most) × AreLefts left lefts

-- the rows, each up to where the next one starts
abbrev pub rows_of : {X : Type 0} → List X → List ℕ → List (List X)
rows_of xs [] = []
rows_of xs (left ∷ []) = []
rows_of xs (left ∷ next ∷ lefts) =
    slice_range xs (length xs - left) (length xs - next) ∷ rows_of xs (next ∷ lefts)

-- the arrays that curves keep: the points of each row rise in time
pub record AreCurveArrays (points : List Point) (ways : List Way) (lefts : List ℕ) : Type 0 where
  pub one_each : length ways ≡ length points
  pub falling : AreLefts (length points) lefts
  pub rising : (c : ℕ) (row : List Point) → slice_get (rows_of points lefts) c ≡ Some row → ArePointsRising row

-- the rows of the classes from a first one on stand in two arrays, and nothing before them
pub record IsTable (held : List Held) (count first : ℕ) (points : List Point) (ways : List Way)
    (lefts : List ℕ) : Type 0 where
  pub one_each : length ways ≡ length points
  pub later : List ℕ
  pub all_left : lefts ≡ length points ∷ later
  pub falling : AreLefts (length points) lefts
  pub rows : List (List Held)
  pub are : AreHeldRows held count first rows
  pub points_are : rows_of points lefts ≡ map (map point_in) rows
  pub ways_are : rows_of ways lefts ≡ map (map way_in) rows

-- the points of each class, and how they came by choices of these
pub record CurveLists : Type 0 where
  pub points : List (List Point)
  pub ways : List (List Way)
  pub choices : List Choice

-- the rows are those of these points
pub record AreRowsOf (held : List Held) (count : ℕ) (curves : CurveLists) : Type 0 where
  pub rows : List (List Held)
  pub are : AreHeldRows held count 0 rows
  pub points_are : curves.points ≡ map (map point_in) rows
  pub ways_are : curves.ways ≡ map (map way_in) rows

-- the curves are those of points of so many classes, and of choices
pub record AreCurvesOf (fronts : FrontState) (count : ℕ) (choices : List Choice) (curves : CurveLists) : Type 0 where
  pub apart : AreApart fronts.spots
  pub spots : map spot_in fronts.held ≡ fronts.spots
  pub rows : AreRowsOf fronts.held count curves
  pub choices_are : curves.choices ≡ choices

-- Each point has a choice that gives it its area, by points of its pins that come before it.
pub record HaveWays (s : Task) (curves : CurveLists) : Type 0 where
  pub choices : AreListedChoices s curves.choices
  pub held : List Held
  pub rows : AreRowsOf held (length s.graph.pairs) curves
  pub backed : AreBacked s curves.choices held

-- what stands at the point of a class at a place
pub record IsStandAt (curves : CurveLists) (c place : ℕ) (it : Stand) : Type 0 where
  pub row : List Way
  pub way : Way
  pub choice : Choice
  pub row_at : slice_get curves.ways c ≡ Some row
  pub way_at : slice_get row place ≡ Some way
  pub choice_at : slice_get curves.choices way.choice ≡ Some choice
  pub part_is : choice.part ≡ plain_part it
