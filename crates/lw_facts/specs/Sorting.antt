-- What a call that sorts by a number gives.
use Rattle.std.specs.Prelude.{ℕ, List}
use Rattle.std.specs.List.Sorted.{IsNonDecreasingBy, IsPermutation}

-- no element is lost or added, and none stands before one of a lower number
pub record AreSortedFrom {X : Type 0} (key : X → ℕ) (old new : List X) : Type 0 where
  pub permutation : IsPermutation old new
  pub sorted : IsNonDecreasingBy key new
