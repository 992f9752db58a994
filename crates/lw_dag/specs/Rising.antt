-- While heights are being found.
use Rattle.std.specs.Prelude.{ℕ, ◌+◌, ◌*◌, ◌<◌, ◌≤◌, ◌≡◌, ◌⊎◌, ◌++◌, ◌==◌, count_by, List, [], ◌∷◌, length, replicate}
use Rattle.std.specs.Prelude.{slice_index_or, slice_set, vec_len, Contains, All}
use Rattle.lw_dag.specs.declared.levels.Levels.{Levels}
use Rattle.lw_dag.specs.declared.levels.Search.{Search}
use Rattle.lw_dag.specs.declared.graph.SmallGraph.{SmallGraph}
use Rattle.lw_dag.specs.Graphs.{fanins_at, height_at, AreHeights, AreKnown, IsOrdered}

-- how many heights aren't known
abbrev pub unknown : List ℕ → ℕ
unknown heights = count_by (λ h. h == 0) heights

-- the nodes that wait for a signal
abbrev pub waiting_at : List (List ℕ) → ℕ → List ℕ
waiting_at waiting s = slice_index_or waiting s []

-- the node waits for one of its fan-ins
pub record IsHeld (waiting : List (List ℕ)) (fanins : List ℕ) (j : ℕ) : Type 0 where
  pub signal : ℕ
  pub among : Contains fanins signal
  pub there : Contains (waiting_at waiting signal) j

-- Each node that has no height waits for a fan-in, or is still to be looked at, and a signal that nodes wait for has no
-- height, or is still to be told to them.
pub record IsRising (inputs : ℕ) (graph : List (List ℕ)) (heights : List ℕ) (waiting : List (List ℕ))
    (ready later : List ℕ) : Type 0 where
  pub known : AreKnown inputs graph heights
  pub lists : length waiting ≡ inputs + length graph
  pub waits : (j : ℕ) → j < length graph → height_at heights (inputs + j) ≡ 0
      → IsHeld waiting (fanins_at graph j) j ⊎ Contains later j
  pub served : (s : ℕ) → 0 < height_at heights s → Contains ready s ⊎ (waiting_at waiting s ≡ [])
  pub few : unknown heights ≤ length graph
  pub low : (s : ℕ) → height_at heights s + unknown heights ≤ 1 + length graph
  pub signals : All (λ s. s < inputs + length graph) ready
  pub nodes : (s : ℕ) → All (λ j. j < length graph) (waiting_at waiting s)

-- The search, while some nodes are still to be looked at.
pub record IsLevelling (inputs : ℕ) (graph : List (List ℕ)) (levels : Search) (later : List ℕ) : Type 0 where
  pub rising : IsRising inputs graph levels.heights.items levels.waiting.items levels.ready.items later
  pub ordered : IsOrdered inputs graph levels.heights.items levels.order.items

-- the search in a graph, while some nodes are still to be looked at
abbrev pub IsLevellingIn : SmallGraph → Search → List ℕ → Type 0
IsLevellingIn graph levels later = IsLevelling graph.inputs graph.nodes.now levels later

-- what is left to do: a height that isn't known counts twice, and a signal that is still to be told once
abbrev pub left_in : Search → ℕ
left_in levels = 2 * unknown levels.heights.items + vec_len levels.ready

-- the search before it begins
pub record IsUntouched (inputs nodes : ℕ) (levels : Search) : Type 0 where
  pub heights : levels.heights.items ≡ replicate inputs 1 ++ replicate nodes 0
  pub order : levels.order.items ≡ []
  pub waiting : levels.waiting.items ≡ replicate (inputs + nodes) []
  pub ready : levels.ready.items ≡ []

-- a node waits for a signal, and the rest is as it was
pub record WaitsFor (signal node : ℕ) (old new : Search) : Type 0 where
  pub heights : new.heights ≡ old.heights
  pub order : new.order ≡ old.order
  pub waiting : new.waiting.items ≡ slice_set old.waiting.items signal
      (waiting_at old.waiting.items signal ++ node ∷ [])
  pub ready : new.ready ≡ old.ready

-- the signal has this height, the node is last in the order, and the signal is one of which others are to be told
pub record IsRaised (signal node height : ℕ) (old new : Search) : Type 0 where
  pub heights : new.heights.items ≡ slice_set old.heights.items signal height
  pub order : new.order.items ≡ old.order.items ++ node ∷ []
  pub waiting : new.waiting ≡ old.waiting
  pub ready : new.ready.items ≡ old.ready.items ++ signal ∷ []

-- nodes were looked at, but for these later ones, and there is no more to do than before
pub record HasSettled (graph : SmallGraph) (later : List ℕ) (old new : Search) : Type 0 where
  pub levelling : IsLevellingIn graph new later
  pub less : left_in new ≤ left_in old

-- these are the first numbers
pub record AreNumbered (many : ℕ) (numbers : List ℕ) : Type 0 where
  pub one_each : length numbers ≡ many
  pub each : (j : ℕ) → j < many → slice_index_or numbers j 0 ≡ j

-- the heights of the graph's signals, and the nodes that have one
pub record AreLevels (graph : SmallGraph) (levels : Levels) : Type 0 where
  pub heights : AreHeights graph.inputs graph.nodes.now levels.heights.items
  pub low : All (λ h. h ≤ 1 + length graph.nodes.now) levels.heights.items
  pub ordered : IsOrdered graph.inputs graph.nodes.now levels.heights.items levels.order.items
