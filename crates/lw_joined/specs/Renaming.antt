-- The forms of a network whose inputs are inputs of another, in any order.
use Rattle.std.specs.Prelude.{ℕ, ◌+◌, ◌-◌, ◌<◌, ◌≤◌, ◌≡◌, Some, List, map, length, slice_get, slice_index_or}
use Rattle.lw_laws.specs.Networks.{Network, Node}
use Rattle.lw_laws.specs.Covers.{Timing}

-- The net of the union that a net of the network is: input i is the input at place i, and what its nodes drive stands
-- from `first` on.
abbrev pub net_at : Network → List ℕ → ℕ → ℕ → ℕ
net_at net places first s = slice_index_or places s (first + (s - net.inputs))

abbrev pub node_at : Network → List ℕ → ℕ → Node → Node
node_at net places first node =
    record { fanins = map (net_at net places first) node.fanins; rows = node.rows; on = node.on }

-- The union holds the network: its inputs are different inputs of the union, and its nodes stand together.
pub record Holds (union net : Network) (places : List ℕ) (first : ℕ) : Type 0 where
  pub one_each : length places ≡ net.inputs
  pub inputs : (i p : ℕ) → slice_get places i ≡ Some p → p < union.inputs
  pub differ : (i j p : ℕ) → slice_get places i ≡ Some p → slice_get places j ≡ Some p → i ≡ j
  pub behind : union.inputs ≤ first
  pub nodes : (j : ℕ) (node : Node) → slice_get net.nodes j ≡ Some node
      → slice_get union.nodes (first + j - union.inputs) ≡ Some (node_at net places first node)

-- the times of the union's inputs as those of the network's
abbrev pub starting : List ℕ → Timing → Timing
starting places timing =
    record { delays = timing.delays; starts = map (λ place. slice_index_or timing.starts place 0) places }
