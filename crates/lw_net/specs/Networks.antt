-- What a closed network is seen as, as plain data and by the names of its ports, and what its type keeps.
use Rattle.std.specs.Prelude.{ℕ, ◌+◌, ◌<◌, ◌≤◌, ◌≡◌, List, [], Some, length, map, take, slice_get, slice_index_or, All}
use Rattle.lw_pool.specs.declared.id.NetId.{NetId}
use Rattle.lw_laws.specs.Networks as laws
use Rattle.lw_laws.specs.Headline.{Port, Ports}
use Rattle.lw_net.specs.declared.node.Node.{Node}
use Rattle.lw_net.specs.Signs.{asked}
use Rattle.lw_pool.specs.Numbers.{most_signals, net_number}

-- Nets below `inputs` are the inputs; the nodes drive the nets after those, in order.
pub record NetworkParts : Type 0 where
  pub model : List ℕ
  pub names : List (List ℕ)
  pub inputs : ℕ
  pub nodes : List Node
  pub outputs : List NetId

-- the name of a net
abbrev pub name_in : NetworkParts → NetId → List ℕ
name_in net id = slice_index_or net.names id.0 []

abbrev pub input_names : NetworkParts → List (List ℕ)
input_names net = take net.inputs net.names

abbrev pub output_names : NetworkParts → List (List ℕ)
output_names net = map (name_in net) net.outputs

abbrev pub plain_node : Node → laws.Node
plain_node node = record { fanins = map net_number node.fanins; rows = map (map asked) node.rows; on = node.on }

-- the network without names
abbrev pub plain : NetworkParts → laws.Network
plain net = record { inputs = net.inputs; nodes = map plain_node net.nodes }

-- an output: the name of its net, and the net
abbrev pub output_port : NetworkParts → NetId → Port
output_port net output = record { name = name_in net output; net = output.0 }

-- the names of the inputs, and the outputs
abbrev pub ports_of : NetworkParts → Ports
ports_of net = record { inputs = input_names net; outputs = map (output_port net) net.outputs }

-- what holds of node j
pub record IsNodeAt (inputs j : ℕ) (node : Node) : Type 0 where
  pub drives : node.out.0 ≡ inputs + j
  pub before : All (λ (net : NetId). net.0 < inputs + j) node.fanins
  pub columns : All (λ (row : List ℕ). length row ≡ length node.fanins) node.rows

-- what each network keeps
pub record IsNetwork (net : NetworkParts) : Type 0 where
  pub named : length net.names ≡ net.inputs + length net.nodes
  pub few : length net.names ≤ most_signals
  pub nodes : (j : ℕ) (node : Node) → slice_get net.nodes j ≡ Some node → IsNodeAt net.inputs j node
  pub outputs : All (λ (net' : NetId). net'.0 < length net.names) net.outputs
