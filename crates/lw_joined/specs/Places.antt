-- The inputs of a network among those of another.
use Rattle.std.specs.Prelude.{ℕ, ◌≡◌, List, take, Some, slice_get, Contains}
use Rattle.std.specs.List.{AllZip}
use Rattle.lw_net.specs.Networks.{NetworkParts, input_names}
use Rattle.lw_joined.specs.declared.places.Places.{Places}
use Rattle.lw_joined.specs.declared.places.Places.TheVariants.{At, Strange}

-- at each place stands the name of the input
abbrev pub ArePlacesOf : List (List ℕ) → List (List ℕ) → List ℕ → Type 0
ArePlacesOf names inputs places = AllZip (λ place name. slice_get names place ≡ Some name) places inputs

-- the name is that of the first input which is not among the names
pub record IsFirstStrange (names inputs : List (List ℕ)) (name : List ℕ) : Type 0 where
  pub place : ℕ
  pub at : slice_get inputs place ≡ Some name
  pub strange : Contains names name → ⊥
  pub before : (other : List ℕ) → Contains (take place inputs) other → Contains names other

abbrev pub ArePlaced : List (List ℕ) → List (List ℕ) → Places → Type 0
ArePlaced names inputs (At places) = ArePlacesOf names inputs places.items
ArePlaced names inputs (Strange name) = IsFirstStrange names inputs name

-- where the inputs of the other network stand among the names
abbrev pub IsPlacing : List (List ℕ) → NetworkParts → Places → Type 0
IsPlacing names other places = ArePlaced names (input_names other) places
