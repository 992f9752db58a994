-- The points that were found, by class.
use Rattle.std.specs.Prelude.{ℕ, ◌+◌, ◌<◌, ◌≤◌, ◌≡◌, ◌⊎◌, Bool, true, false, List, [], ◌∷◌, length, map, Option, Some}
use Rattle.std.specs.Prelude.{None, slice_get, slice_set}
use Rattle.lw_curves.specs.declared.point.Found.{Found}
use Rattle.lw_choices.specs.Areas.{most_area}
use Rattle.lw_curves.specs.Backing.{Held, IsHeld, IsHeldGained, spot_in}
use Rattle.lw_choices.specs.Chains.{ChainState, IsLast}
use Rattle.lw_curves.specs.Settling.{Spot, spot, Has, AreApart, HasAtMost, IsGained}

pub record FrontState : Type 0 where
  pub spots : List Spot
  -- the least area of each class
  pub least : List ℕ
  -- the points with their choices, in the same order
  pub held : List Held

abbrev pub spots_of : List ℕ → List Found → List Spot
spots_of (c ∷ cs) (p ∷ ps) = spot c p.time.0 p.area ∷ spots_of cs ps
spots_of _ _ = []

abbrev pub held_at : ℕ → Found → Held
held_at c p = record { spot = spot c p.time.0 p.area; choice = p.choice; order = p.order }

abbrev pub held_of : List ℕ → List Found → List Held
held_of (c ∷ cs) (p ∷ ps) = held_at c p ∷ held_of cs ps
held_of _ _ = []

-- the place is the last with the class, and its point is of the time
pub record IsLastAt (classes : List ℕ) (points : List Found) (c time place : ℕ) : Type 0 where
  pub last : IsLast classes c (length classes) (Some place)
  pub point : Found
  pub at : slice_get points place ≡ Some point
  pub time_is : point.time.0 ≡ time

-- no point of the class is of the time or later
abbrev pub AreBefore : List Spot → ℕ → ℕ → Type 0
AreBefore spots c time = (k : Spot) → Has spots k → k.class ≡ c → k.time < time

-- the place of such a point, if there is one
abbrev pub IsPlaceFor : List ℕ → List Found → ℕ → ℕ → Option ℕ → Type 0
IsPlaceFor classes points c time None = AreBefore (spots_of classes points) c time
IsPlaceFor classes points c time (Some place) = IsLastAt classes points c time place

-- each place has a point, and of two of a class the later has less area
pub record AreFoundAt (classes : List ℕ) (points : List Found) : Type 0 where
  pub one_each : length points ≡ length classes
  pub apart : AreApart (spots_of classes points)

-- the point is no earlier than any, was gained after all, and has less area than each of its class
pub record MayPut (links : ChainState) (points : List Found) (c : ℕ) (p : Found) : Type 0 where
  pub class : c < links.count
  pub are : AreFoundAt links.classes points
  pub late : (k : Spot) → Has (spots_of links.classes points) k → k.time ≤ p.time.0
  pub less : (k : Spot) → Has (spots_of links.classes points) k → k.class ≡ c → p.area < k.area
  pub fresh : (h : Held) → IsHeld (held_of links.classes points) h → h.order < p.order

-- each place has a point, and the class is one of those that are linked
pub record MayJump (links : ChainState) (points : List Found) (c : ℕ) : Type 0 where
  pub class : c < links.count
  pub one_each : length points ≡ length links.classes

-- it was gained
pub record IsPutTo (classes new_classes : List ℕ) (points new_points : List Found) (c : ℕ) (p : Found) : Type 0 where
  pub gained : IsGained (spots_of classes points) (spots_of new_classes new_points) (spot c p.time.0 p.area)
  pub held : IsHeldGained (held_of classes points) (held_of new_classes new_points) (held_at c p)

-- all points are as they were
pub record ArePointsSame (classes new_classes : List ℕ) (points new_points : List Found) : Type 0 where
  pub spots : spots_of new_classes new_points ≡ spots_of classes points
  pub held : held_of new_classes new_points ≡ held_of classes points

-- no point of the class has less area, and one has this area unless it is more than the greatest
pub record IsLeastOf (spots : List Spot) (c area : ℕ) : Type 0 where
  pub low : (k : Spot) → Has spots k → k.class ≡ c → area ≤ k.area
  pub at : (area ≡ most_area + 1) ⊎ ((k : Spot) × Has spots k × (k.class ≡ c) × (k.area ≡ area))

pub record IsFronts (links : ChainState) (points : List Found) (least : List ℕ) (gains : ℕ) : Type 0 where
  pub are : AreFoundAt links.classes points
  pub count : links.count ≡ length least
  pub least_is : (c area : ℕ) → slice_get least c ≡ Some area → IsLeastOf (spots_of links.classes points) c area
  pub orders : (h : Held) → IsHeld (held_of links.classes points) h → h.order < gains

-- so many classes, none with a point
pub record HasNoSpots (n : ℕ) (fronts : FrontState) : Type 0 where
  pub spots : fronts.spots ≡ []
  pub held : fronts.held ≡ []
  pub classes : length fronts.least ≡ n

-- the number of points, which are the same with their choices and without, the later ones of a class with less area
pub record CountsSpots (fronts : FrontState) (n : ℕ) : Type 0 where
  pub len : n ≡ length fronts.spots
  pub apart : AreApart fronts.spots
  pub spots : map spot_in fronts.held ≡ fronts.spots

-- the least area of the points of the class by the time, and none where it has none
abbrev pub IsLeastSpot : List Spot → ℕ → ℕ → Option ℕ → Type 0
IsLeastSpot spots c time None =
    (k : Spot) → Has spots k → k.class ≡ c → k.time ≤ time → ⊥
IsLeastSpot spots c time (Some area) =
    ((k : Spot) × Has spots k × (k.class ≡ c) × (k.time ≤ time) × (k.area ≡ area))
    × ((k : Spot) → Has spots k → k.class ≡ c → k.time ≤ time → area ≤ k.area)

-- a point of the class has no more area by this time, unless it was said that there is none
abbrev pub IsLessOr : List Spot → ℕ → ℕ → ℕ → Bool → Type 0
IsLessOr spots c time area true = Unit {0}
IsLessOr spots c time area false = HasAtMost spots c time area

-- the point is added with its choice, or a point of the class has no more area
abbrev pub IsTried : FrontState → FrontState → Spot → ℕ → Bool → Type 0
IsTried old new k choice true =
    IsGained old.spots new.spots k × (new.least ≡ slice_set old.least k.class k.area)
    × ((area : ℕ) → slice_get old.least k.class ≡ Some area → k.area < area)
    × ((order : ℕ) × IsHeldGained old.held new.held (record { spot = k; choice = choice; order = order }))
IsTried old new k choice false = (new ≡ old) × HasAtMost old.spots k.class k.time k.area

-- the point is of one of the classes, of no more area than is told, and no earlier than any
pub record MayTry (fronts : FrontState) (c time area : ℕ) : Type 0 where
  pub class : c < length fronts.least
  pub small : area ≤ most_area
  pub late : (k : Spot) → Has fronts.spots k → k.time ≤ time
