-- Networks as plain data, the values of their nets, and the order of their nodes.
use Rattle.std.specs.Prelude.{ℕ, ◌+◌, ◌<◌, ◌≡◌, max, Bool, true, false, not, ◌&&◌, Option, Some, None, List, [], ◌∷◌}
use Rattle.std.specs.Prelude.{map, length, slice_get, slice_index_or, Contains}
use Rattle.std.specs.List.{list_any}

-- A row asks each fan-in, in columns, for a value or for none. The node is true where some row holds, or, where `on` is
-- false, where none does.
pub record Node : Type 0 where
  pub fanins : List ℕ
  pub rows : List (List (Option Bool))
  pub on : Bool

-- Net i is input i for i below `inputs`; the nodes drive the nets after those, in order.
pub record Network : Type 0 where
  pub inputs : ℕ
  pub nodes : List Node

-- the value that is asked for, or the other one
abbrev pub agrees : Bool → Bool → Bool
agrees true b = b
agrees false b = not b

-- the row holds at these values of the fan-ins
abbrev pub row_value : List Bool → List (Option Bool) → Bool
row_value (v ∷ vs) (Some asked ∷ row) = agrees asked v && row_value vs row
row_value (v ∷ vs) (None ∷ row) = row_value vs row
row_value _ _ = true

-- what the node's rows give, at these values of all nets
abbrev pub node_value : List Bool → Node → Bool
node_value values node =
    agrees node.on (list_any (row_value (map (λ net. slice_index_or values net false) node.fanins)) node.rows)

-- The assignment of a value to each net is right for these values of the inputs: each node has what its rows give.
pub record AreValues (net : Network) (x : ℕ → Bool) (values : List Bool) : Type 0 where
  pub one_each : length values ≡ net.inputs + length net.nodes
  pub inputs : (i : ℕ) → i < net.inputs → slice_get values i ≡ Some (x i)
  pub nodes : (j : ℕ) (node : Node) → slice_get net.nodes j ≡ Some node
      → slice_get values (net.inputs + j) ≡ Some (node_value values node)

-- the values of inputs that a list gives
abbrev pub given : List Bool → ℕ → Bool
given xs i = slice_index_or xs i false

-- each fan-in of a node is a net before its own
pub record IsInOrder (net : Network) : Type 0 where
  pub before : (j s : ℕ) (node : Node) → slice_get net.nodes j ≡ Some node → Contains node.fanins s → s < net.inputs + j

-- the greatest of the depths of some nets
abbrev pub greatest_depth : List ℕ → List ℕ → ℕ
greatest_depth depths [] = 0
greatest_depth depths (s ∷ nets) = max (slice_index_or depths s 0) (greatest_depth depths nets)

-- The depths of the nets: 0 at an input, and at a node 1 more than the greatest of its fan-ins.
pub record AreDepths (net : Network) (depths : List ℕ) : Type 0 where
  pub one_each : length depths ≡ net.inputs + length net.nodes
  pub inputs : (i : ℕ) → i < net.inputs → slice_get depths i ≡ Some 0
  pub nodes : (j : ℕ) (node : Node) → slice_get net.nodes j ≡ Some node
      → slice_get depths (net.inputs + j) ≡ Some (1 + greatest_depth depths node.fanins)
