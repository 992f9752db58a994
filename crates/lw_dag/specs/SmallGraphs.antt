-- Graphs as the search for a cycle sees them.
use Rattle.std.specs.Prelude.{ℕ, ◌+◌, ◌<◌, ◌≡◌, List, length}
use Rattle.lw_dag.specs.declared.cycles.Levelled.{Levelled}
use Rattle.lw_dag.specs.declared.graph.SmallGraph.{SmallGraph}
use Rattle.lw_dag.specs.Graphs.{AreHeights, Leads, height_at}

-- the heights are those of the graph's signals
abbrev pub AreHeightsOf : Levelled → Type 0
AreHeightsOf of = AreHeights of.graph.now.inputs of.graph.now.nodes.now of.heights.now

-- it is a node, and has no height
pub record LacksHeight (of : Levelled) (p : ℕ) : Type 0 where
  pub within : p < length of.graph.now.nodes.now
  pub lacks : height_at of.heights.now (of.graph.now.inputs + p) ≡ 0

-- from the node it is reached again
abbrev pub LeadsToItself : SmallGraph → ℕ → Type 0
LeadsToItself graph p = Leads graph.inputs graph.nodes.now p (graph.inputs + p)

-- it is a node that leads to itself
pub record IsOnCycle (graph : SmallGraph) (p : ℕ) : Type 0 where
  pub within : p < length graph.nodes.now
  pub cycle : LeadsToItself graph p

-- each node has a height
abbrev pub AreAllHigh : ℕ → List ℕ → Type 0
AreAllHigh inputs heights = (j : ℕ) → inputs + j < length heights → 0 < height_at heights (inputs + j)

-- the node has no height
pub record IsLowAt (inputs : ℕ) (heights : List ℕ) (j : ℕ) : Type 0 where
  pub within : inputs + j < length heights
  pub lacks : height_at heights (inputs + j) ≡ 0
