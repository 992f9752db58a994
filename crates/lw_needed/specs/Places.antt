-- Classes with their depths, and the orders of them.
use Rattle.std.specs.Prelude.{ℕ, ◌+◌, ◌*◌, ◌^◌, ◌<◌, ◌≡◌, ◌⊎◌, List, Some, slice_get}
use Rattle.lw_needed.specs.declared.places.Place.{Place}

-- one number for each place, in the order by depth and then class
abbrev pub place_key : Place → ℕ
place_key p = p.depth * 2 ^ 32 + p.class.0

abbrev pub IsPlaceBefore : Place → Place → Type 0
IsPlaceBefore p q = (p.depth < q.depth) ⊎ ((p.depth ≡ q.depth) × (p.class.0 < q.class.0))

-- in the order of the classes' numbers
abbrev pub AreInClassOrder : List Place → Type 0
AreInClassOrder places =
    (i j : ℕ) (p q : Place) → slice_get places i ≡ Some p → slice_get places j ≡ Some q → i < j → p.class.0 < q.class.0

-- by depth and then class
abbrev pub AreInDepthOrder : List Place → Type 0
AreInDepthOrder places =
    (i j : ℕ) (p q : Place) → slice_get places i ≡ Some p → slice_get places j ≡ Some q → i < j → IsPlaceBefore p q
