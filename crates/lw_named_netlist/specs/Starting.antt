-- The depths of names and where their nets start, while they are found.
use Rattle.std.specs.Prelude.{ℕ, ◌+◌, ◌<◌, ◌≤◌, ◌≡◌, All, List, length, slice_set}
use Rattle.lw_dag.specs.declared.levels.Levels.{Levels}
use Rattle.lw_dag.specs.Graphs.{AreHeights, IsOrdered, most_signals}
use Rattle.lw_named_netlist.specs.declared.levels.Starts.{Starts}
use Rattle.lw_named_netlist.specs.Numbered.{deepest, own_start, step_of}

-- these are the heights of a graph's signals, which are low, and the nodes in order
pub record AreLevelsOf (inputs : ℕ) (graph : List (List ℕ)) (levels : Levels) : Type 0 where
  pub heights : AreHeights inputs graph levels.heights.items
  pub low : All (λ h. h ≤ 1 + length graph) levels.heights.items
  pub ordered : IsOrdered inputs graph levels.heights.items levels.order.items

-- there is a place for the node and for what it hangs on, each with a depth and a start, and a depth may be one more
pub record CanPlace (own : ℕ) (needs : List ℕ) (found : Starts) : Type 0 where
  pub own_within : own < length found.depths.items
  pub few : length found.depths.items ≤ most_signals
  pub low : deepest found.depths.items needs ≤ most_signals
  pub signals : All (λ s. s < length found.depths.items) needs
  pub starts_each : length found.starts.items ≡ length found.depths.items

-- a node has its depth and its start, and the others are as they were
pub record PlacesNode (gates j own : ℕ) (needs : List ℕ) (old new : Starts) : Type 0 where
  pub depths : new.depths.items ≡ slice_set old.depths.items own (step_of gates j + deepest old.depths.items needs)
  pub starts : new.starts.items ≡ slice_set old.starts.items own (own_start gates j old.starts.items own needs)
