-- The order in which the classes of a graph are visited, by places: place p is that of the classes 2p and 2p + 1.
use Rattle.std.specs.Prelude.{ℕ, ◌<◌, ◌/◌, ◌≡◌, ◌-◌, ◌+◌, ◌*◌, ◌^◌, ◌⊎◌, Bool, true, false, List, length, All, Contains}
use Rattle.std.specs.Prelude.{IfSome, Some, slice_get, slice_index_or, slice_set}
use Rattle.std.specs.List.{sum_by}
use Rattle.lw_laws.specs.Graphs.{Graph, HoldsPair}
use Rattle.lw_label.specs.declared.order.Walk.{Walk}

-- each place below n, and no other
pub record IsOrder (n : ℕ) (order : List ℕ) : Type 0 where
  pub within : All (λ p. p < n) order
  pub whole : (p : ℕ) → p < n → Contains order p

-- the number of places of a graph
abbrev pub places_of : Graph → ℕ
places_of g = length g.pairs / 2

-- a walk over n places: each that it has entered is on its path or left
pub record IsWalk (n : ℕ) (w : Walk) : Type 0 where
  pub next : length w.next.items ≡ n
  pub entered : length w.entered.items ≡ n
  pub path : All (λ p. p < n) w.path.items
  pub order : All (λ p. p < n) w.order.items
  pub found : (p : ℕ) → slice_index_or w.entered.items p false ≡ true
      → Contains w.path.items p ⊎ Contains w.order.items p

-- what was entered stays so
abbrev pub StaysEntered : Walk → Walk → Type 0
StaysEntered old new =
    (p : ℕ) → slice_index_or old.entered.items p false ≡ true → slice_index_or new.entered.items p false ≡ true

-- how many steps a walk can still take at most
abbrev pub steps_left : Walk → ℕ
steps_left w = 2 * sum_by (λ n. 2 ^ 64 - n) w.next.items + length w.path.items

-- the order of visits, over how many places, and which of these are still
pub record VisitState : Type 0 where
  pub order : List ℕ
  pub places : ℕ
  pub still : List Bool

-- the place of the class is still
abbrev pub IsStillAt : List Bool → ℕ → Type 0
IsStillAt still c = slice_index_or still (c / 2) false ≡ true

-- so are the places of the classes in its pairs
abbrev pub ArePartsStill : Graph → List Bool → ℕ → Type 0
ArePartsStill g still c = (x y : ℕ) → HoldsPair g c x y → IsStillAt still x × IsStillAt still y

-- nothing has changed, or the place has become still after all its parts
abbrev pub IsStillAfter : Graph → ℕ → List Bool → List Bool → Type 0
IsStillAfter g place old new =
    (new ≡ old) ⊎ ((place < length old) × (new ≡ slice_set old place true)
    × ((c : ℕ) → c / 2 ≡ place → ArePartsStill g old c))

-- the visits, where perhaps a place has become still
pub record AreVisitsAfter (g : Graph) (place : ℕ) (old new : VisitState) : Type 0 where
  pub order : new.order ≡ old.order
  pub places : new.places ≡ old.places
  pub still : IsStillAfter g place old.still new.still

-- a class of the graph, which has n places
pub record IsClassAmong (g : Graph) (n c : ℕ) : Type 0 where
  pub class : c < length g.pairs
  pub places : n ≡ places_of g

-- a place of the graph, which has n of them
pub record IsPlaceAmong (g : Graph) (n p : ℕ) : Type 0 where
  pub place : p < places_of g
  pub places : n ≡ places_of g

-- a visit of a place of the graph
pub record IsVisitOf (g : Graph) (v : VisitState) (n : ℕ) : Type 0 where
  pub number : n < length v.order
  pub places : v.places ≡ places_of g

-- the place of the visit
pub record IsPlaceAt (v : VisitState) (number p : ℕ) : Type 0 where
  pub place : slice_get v.order number ≡ Some p
  pub within : p < v.places

-- the place of the visit is still
abbrev pub IsStillIn : VisitState → ℕ → Type 0
IsStillIn v number = IfSome (slice_get v.order number) (λ p. slice_index_or v.still p false ≡ true)

-- a place that is not still, but its parts are
pub record IsReady (g : Graph) (v : VisitState) (place : ℕ) : Type 0 where
  pub within : place < v.places
  pub moving : slice_index_or v.still place false ≡ false
  pub parts : (c : ℕ) → c / 2 ≡ place → ArePartsStill g v.still c

-- in a whole round, the classes whose place is among the first ones of an order
abbrev pub IsPassed : Bool → List ℕ → ℕ → ℕ → Type 0
IsPassed whole order count c = (whole ≡ true) × ((i : ℕ) × (i < count) × (slice_get order i ≡ Some (c / 2)))

-- those whose place is the one with this number
abbrev pub IsVisited : Bool → List ℕ → ℕ → ℕ → Type 0
IsVisited whole order number c = (whole ≡ true) × (slice_get order number ≡ Some (c / 2))
