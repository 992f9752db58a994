-- Lists in the order of numbers that belong to their entries.
use Rattle.std.specs.Prelude.{ℕ, ◌<◌, ◌≡◌, ◌==◌, max, List, [], ◌∷◌, map, filter, length, slice_index_or, Result, OnOk}
use Rattle.std.specs.Prelude.{OnErr}
use Rattle.std.specs.List.Sorted.{IsPermutation}
use Rattle.std.specs.List.{flat_map, range_with_len}
use Rattle.lw_facts.specs.Sorting.{AreSortedFrom}

abbrev pub greatest : List ℕ → ℕ
greatest [] = 0
greatest (n ∷ ns) = max n (greatest ns)

-- these are the numbers of the entries, by place
abbrev pub AreKeys : {X : Type 0} → List ℕ → List X → (X → ℕ) → Type 0
AreKeys {X} numbers xs key = (k : ℕ) (d : X) → k < length xs → slice_index_or numbers k 0 ≡ key (slice_index_or xs k d)

-- the entries by numbers from 1 on, and at one number as they stand
abbrev pub by_key : {X : Type 0} → (X → ℕ) → List X → List X
by_key key xs = flat_map (λ n. filter (λ x. key x == n) xs) (range_with_len 1 (greatest (map key xs)))

-- Where that goes well, the entries stand by key, and those of one key as they stood; else they are moved.
pub record Sorts {X E : Type 0} (key : X → ℕ) (result : Result (Unit {0}) E) (old new : List X) : Type 0 where
  pub sorted : OnOk result (AreSortedFrom key old new)
  pub stable : OnOk result ((k : ℕ) → filter (λ x. key x == k) new ≡ filter (λ x. key x == k) old)
  pub moved : OnErr result (IsPermutation old new)
