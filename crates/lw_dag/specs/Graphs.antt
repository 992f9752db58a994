-- Graphs of numbered nodes: the inputs are the first signals, and each node drives the next one.
use Rattle.std.specs.Prelude.{ℕ, ◌+◌, ◌-◌, ◌^◌, ◌<◌, ◌≤◌, ◌≡◌, max, List, [], ◌∷◌, length, take, slice_index_or}
use Rattle.std.specs.Prelude.{Contains, All}

-- how many signals there are at most, so that their numbers and heights fit in 32 bits
abbrev pub most_signals : ℕ
most_signals = 2 ^ 32 - 2

-- the fan-ins of node j
abbrev pub fanins_at : List (List ℕ) → ℕ → List ℕ
fanins_at graph j = slice_index_or graph j []

-- each fan-in is a signal
abbrev pub IsGraph : ℕ → List (List ℕ) → Type 0
IsGraph inputs graph = (j : ℕ) → All (λ s. s < inputs + length graph) (fanins_at graph j)

-- and the numbers and heights of all signals fit in 32 bits
pub record IsSmallGraph (inputs : ℕ) (nodes : List (List ℕ)) : Type 0 where
  pub graph : IsGraph inputs nodes
  pub few : inputs + length nodes ≤ most_signals

-- From node j the signal is reached through fan-ins.
pub data Leads (inputs : ℕ) (graph : List (List ℕ)) : ℕ → ℕ → Type 0 where
  one_step : {j s : ℕ} → Contains (fanins_at graph j) s → Leads inputs graph j s
  then_path : {j s : ℕ} (k : ℕ) → Contains (fanins_at graph j) (inputs + k) → Leads inputs graph k s
      → Leads inputs graph j s

-- the first node that leads to itself
pub record IsFirst (inputs : ℕ) (graph : List (List ℕ)) (p : ℕ) : Type 0 where
  pub within : p < length graph
  pub cycle : Leads inputs graph p (inputs + p)
  pub first : (j : ℕ) → j < p → Leads inputs graph j (inputs + j) → ⊥

-- 1 more than the depth of a signal, or 0 where it has none, since a cycle is behind it
abbrev pub height_at : List ℕ → ℕ → ℕ
height_at heights s = slice_index_or heights s 0

-- the greatest height of some signals, and at least that of an input
abbrev pub tallest : List ℕ → List ℕ → ℕ
tallest heights [] = 1
tallest heights (s ∷ signals) = max (height_at heights s) (tallest heights signals)

-- the height of a node is known from those of its fan-ins
pub record IsPlaced (heights fanins : List ℕ) (own : ℕ) : Type 0 where
  pub known : All (λ s. 0 < height_at heights s) fanins
  pub height : own ≡ 1 + tallest heights fanins

-- a fan-in has no height
pub record IsStuck (heights fanins : List ℕ) : Type 0 where
  pub signal : ℕ
  pub among : Contains fanins signal
  pub open_there : height_at heights signal ≡ 0

-- An input has the height 1, and a node that has one is 1 higher than its fan-ins.
pub record AreKnown (inputs : ℕ) (graph : List (List ℕ)) (heights : List ℕ) : Type 0 where
  pub one_each : length heights ≡ inputs + length graph
  pub given_ones : (s : ℕ) → s < inputs → height_at heights s ≡ 1
  pub placed : (j : ℕ) → j < length graph → 0 < height_at heights (inputs + j)
      → IsPlaced heights (fanins_at graph j) (height_at heights (inputs + j))

-- And where a node has none, neither has one of its fan-ins.
pub record AreHeights (inputs : ℕ) (graph : List (List ℕ)) (heights : List ℕ) : Type 0 where
  pub known : AreKnown inputs graph heights
  pub stuck : (j : ℕ) → j < length graph → height_at heights (inputs + j) ≡ 0 → IsStuck heights (fanins_at graph j)

-- The nodes that have a height, each behind its fan-ins, and none twice.
pub record IsOrdered (inputs : ℕ) (graph : List (List ℕ)) (heights order : List ℕ) : Type 0 where
  pub each : (j : ℕ) → j < length graph → 0 < height_at heights (inputs + j) → Contains order j
  pub known : All (λ j. 0 < height_at heights (inputs + j)) order
  pub nodes : All (λ j. j < length graph) order
  pub behind : (k i : ℕ) → k < length order → Contains (fanins_at graph (slice_index_or order k 0)) (inputs + i)
      → Contains (take k order) i
  pub once : (k : ℕ) → k < length order → Contains (take k order) (slice_index_or order k 0) → ⊥
