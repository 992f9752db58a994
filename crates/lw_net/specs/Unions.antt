-- Networks that are joined over the inputs of one of them.
use Rattle.std.specs.Prelude.{ℕ, ◌+◌, ◌-◌, ◌<◌, ◌≤◌, ◌≡◌, nat_lt, if◌then◌else◌, List, [], ◌++◌, length, map, drop, slice_index_or, All}
use Rattle.lw_pool.specs.declared.id.NetId.{NetId}
use Rattle.lw_pool.specs.Numbers.{most_signals}
use Rattle.lw_net.specs.declared.joining.Place.{Place}
use Rattle.lw_net.specs.declared.node.Node.{Node}
use Rattle.lw_net.specs.Networks.{NetworkParts, input_names}

-- A net of a network that is joined to another: input i is the net that the list has at place i, and what its nodes drive stands from `first` on.
abbrev pub placed_net : ℕ → ℕ → List ℕ → NetId → NetId
placed_net inputs first places net = record { 0 = if nat_lt net.0 inputs then slice_index_or places net.0 0 else first + (net.0 - inputs) }

abbrev pub placed_node : ℕ → ℕ → List ℕ → Node → Node
placed_node inputs first places node =
    record { out = placed_net inputs first places node.out; fanins = map (placed_net inputs first places) node.fanins; rows = node.rows; on = node.on }

-- the inputs of a network alone
abbrev pub bare : NetworkParts → NetworkParts
bare net = record { model = net.model; names = input_names net; inputs = net.inputs; nodes = []; outputs = [] }

-- a network with the nodes of another one behind its own
abbrev pub joined_to : NetworkParts → NetworkParts → List ℕ → NetworkParts
joined_to one other places =
    record {
      model = one.model;
      names = one.names ++ drop other.inputs other.names;
      inputs = one.inputs;
      nodes = one.nodes ++ map (placed_node other.inputs (length one.names) places) other.nodes;
      outputs = one.outputs;
    }

-- the same by the place of a network
abbrev pub placed_in : Place → NetId → NetId
placed_in p net = placed_net p.inputs p.first p.places.now net

abbrev pub placed_node_in : Place → Node → Node
placed_node_in p node = placed_node p.inputs p.first p.places.now node

-- each input has its place, and the numbers of nets have 32 bits
pub record CanPlace (p : Place) (net : NetId) : Type 0 where
  pub one_each : length p.places.now ≡ p.inputs
  pub low : p.first ≤ most_signals
  pub few : net.0 ≤ most_signals

pub record CanPlaceNode (p : Place) (node : Node) : Type 0 where
  pub out : CanPlace p node.out
  pub fanins : All (CanPlace p) node.fanins

-- each input of the other is an input of the one
pub record ArePlacesIn (inputs : ℕ) (other : NetworkParts) (places : List ℕ) : Type 0 where
  pub one_each : length places ≡ other.inputs
  pub within : All (λ i. i < inputs) places

-- and there is room for its nodes
pub record CanBeJoined (one other : NetworkParts) (places : List ℕ) : Type 0 where
  pub placed : ArePlacesIn one.inputs other places
  pub room : length one.names + length other.nodes ≤ most_signals
