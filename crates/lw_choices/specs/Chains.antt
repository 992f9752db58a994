-- Places of one array that are linked by their classes: each to the last one before it with the same class.
use Rattle.std.specs.Prelude.{ℕ, ◌+◌, ◌-◌, ◌^◌, ◌<◌, ◌≡◌, ◌==◌, if◌then◌else◌, List, [], length, Option, Some, None}
use Rattle.std.specs.Prelude.{slice_get}

-- how many numbers have 32 bits
abbrev pub number_count : ℕ
number_count = 2 ^ 32

-- what stands for no place
abbrev pub no_place : ℕ
no_place = 2 ^ 32 - 1

-- the place that a number stands for
abbrev pub place_of : ℕ → Option ℕ
place_of n = if n == no_place then None else Some n

-- the number that stands for a place
abbrev pub number_of : Option ℕ → ℕ
number_of None = no_place
number_of (Some p) = p

-- the classes of the places, and how many classes there are
pub record ChainState : Type 0 where
  pub classes : List ℕ
  pub count : ℕ

-- no places, for so many classes
pub record HasNoPlaces (n : ℕ) (links : ChainState) : Type 0 where
  pub classes : links.classes ≡ []
  pub count : links.count ≡ n

-- the number of places, each with one of the classes
pub record CountsPlaces (links : ChainState) (n : ℕ) : Type 0 where
  pub len : n ≡ length links.classes
  pub within : (i c : ℕ) → slice_get links.classes i ≡ Some c → c < links.count

-- the places are as before, and there is one class more
pub record HasOneClassMore (old new : ChainState) : Type 0 where
  pub classes : new.classes ≡ old.classes
  pub count : new.count ≡ old.count + 1

-- none of the places from a place on and before another has the class
abbrev pub HasNone : List ℕ → ℕ → ℕ → ℕ → Type 0
HasNone cs c from to = (j : ℕ) → from < j + 1 → j < to → slice_get cs j ≡ Some c → ⊥

-- the last of the first n places that has the class, and none where none of them has
abbrev pub IsLast : List ℕ → ℕ → ℕ → Option ℕ → Type 0
IsLast cs c n None = HasNone cs c 0 n
IsLast cs c n (Some i) = (i < n) × (slice_get cs i ≡ Some c) × HasNone cs c (i + 1) n

-- what the links keep: the classes of the places, the place before each, and the last place of each class
pub record AreChains (classes : List ℕ) (befores heads : List (Option ℕ)) : Type 0 where
  pub few : length classes < number_count
  pub one_each : length befores ≡ length classes
  pub within : (i c : ℕ) → slice_get classes i ≡ Some c → c < length heads
  pub heads_are : (c : ℕ) (o : Option ℕ) → slice_get heads c ≡ Some o → IsLast classes c (length classes) o
  pub before_is : (i c : ℕ) (o : Option ℕ) → slice_get classes i ≡ Some c → slice_get befores i ≡ Some o
      → IsLast classes c i o
