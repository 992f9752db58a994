-- What a draft is closed to: a network, or the first signal that nothing drives, or the first node on a cycle.
use Rattle.std.specs.Prelude.{ℕ, ◌+◌, ◌<◌, ◌≤◌, ◌≡◌, ◌==◌, not, Option, Some, None, ⊤, List, ◌++◌, map, length, filter}
use Rattle.std.specs.Prelude.{find, slice_get, Contains, All}
use Rattle.std.specs.List.{flat_map, range_with_len, IsDistinct}
use Rattle.std.specs.Str.{bytes_eq}
use Rattle.lw_pool.specs.Numbers.{most_signals}
pub use Rattle.lw_dag.specs.Names.{is_among, number_in}
pub use Rattle.lw_dag.specs.Ordering.{greatest}
use Rattle.lw_pool.specs.declared.id.NetId.{NetId}
use Rattle.lw_net.specs.declared.draft.Draft.{Draft}
use Rattle.lw_net.specs.declared.draft.DraftNode.{DraftNode}
use Rattle.lw_net.specs.declared.fault.NetFault.{NetFault}
use Rattle.lw_net.specs.declared.fault.NetFault.TheVariants.{Undefined, Cycle, Memory}
use Rattle.lw_net.specs.declared.node.Node.{Node}
use Rattle.lw_net.specs.Networks.{NetworkParts}

abbrev pub out_of : DraftNode → List ℕ
out_of node = node.out

abbrev pub fanins_of : DraftNode → List (List ℕ)
fanins_of node = node.fanins

-- what is driven: the inputs, and then what the nodes drive, as they are written
abbrev pub signals_of : Draft → List (List ℕ)
signals_of draft = draft.inputs ++ map out_of draft.nodes

-- what is asked of a draft
pub record IsDraft (draft : Draft) : Type 0 where
  pub signals : IsDistinct bytes_eq (signals_of draft)
  pub outputs : IsDistinct bytes_eq draft.outputs
  pub columns : All
      (λ (node : DraftNode). All (λ (row : List ℕ). length row ≡ length node.fanins) node.rows) draft.nodes
  pub few : length (signals_of draft) ≤ most_signals

-- the first of some names that is none of the signals
abbrev pub undefined_in : List (List ℕ) → List (List ℕ) → Option (List ℕ)
undefined_in signals names = find (λ name. not (is_among signals name)) names

-- the first fan-in, by nodes and columns, or else the first output that nothing drives
abbrev pub first_undefined : Draft → Option (List ℕ)
first_undefined draft = undefined_in (signals_of draft) (flat_map fanins_of draft.nodes ++ draft.outputs)

-- From one name the other is reached through fan-ins: it is a fan-in of what drives the first, or is reached from one.
pub data Reaches (nodes : List DraftNode) : List ℕ → List ℕ → Type 0 where
  by_fanin : {from to : List ℕ} (node : DraftNode) → Contains nodes node → node.out ≡ from → Contains node.fanins to
      → Reaches nodes from to
  by_path : {from next to : List ℕ} (node : DraftNode) → Contains nodes node → node.out ≡ from
      → Contains node.fanins next → Reaches nodes next to → Reaches nodes from to

-- no node reaches itself
abbrev pub HasNoCycle : List DraftNode → Type 0
HasNoCycle nodes = (name : List ℕ) → Reaches nodes name name → ⊥

-- the name is that of the first node, as they are written, that reaches itself
pub record IsFirstOnCycle (nodes : List DraftNode) (name : List ℕ) : Type 0 where
  pub place : ℕ
  pub within : place < length nodes
  pub named : slice_get (map out_of nodes) place ≡ Some name
  pub cycle : Reaches nodes name name
  pub first : (j : ℕ) (other : List ℕ) → j < place → slice_get (map out_of nodes) j ≡ Some other
      → Reaches nodes other other → ⊥

-- The depths of the signals: 0 at an input, and at a node 1 more than the greatest of its fan-ins.
pub record AreSignalDepths (draft : Draft) (depth : List ℕ → ℕ) : Type 0 where
  pub inputs : All (λ name. depth name ≡ 0) draft.inputs
  pub nodes : All (λ (node : DraftNode). depth node.out ≡ 1 + greatest (map depth node.fanins)) draft.nodes

-- the nodes by depth, and at one depth as they are written
abbrev pub by_depth : (List ℕ → ℕ) → List DraftNode → List DraftNode
by_depth depth nodes =
    flat_map (λ d. filter (λ (node : DraftNode). depth node.out == d) nodes)
    (range_with_len 1 (greatest (map (λ (node : DraftNode). depth node.out) nodes)))

abbrev pub net_in : List (List ℕ) → List ℕ → NetId
net_in names name = record { 0 = number_in names name }

-- a node with nets in place of names
abbrev pub closed_node : List (List ℕ) → DraftNode → Node
closed_node names node =
    record { out = net_in names node.out; fanins = map (net_in names) node.fanins; rows = node.rows; on = node.on }

-- the network whose nodes stand in this order
abbrev pub network_in : Draft → List DraftNode → NetworkParts
network_in draft nodes =
    let names = draft.inputs ++ map out_of nodes in
    record {
      model = draft.model;
      names = names;
      inputs = length draft.inputs;
      nodes = map (closed_node names) nodes;
      outputs = map (net_in names) draft.outputs;
    }

-- The draft has neither fault, and this is its network, with its nodes by depth.
pub record IsClosed (draft : Draft) (net : NetworkParts) : Type 0 where
  pub defined : first_undefined draft ≡ None
  pub no_cycle : HasNoCycle draft.nodes
  pub depth : List ℕ → ℕ
  pub depths : AreSignalDepths draft depth
  pub network : net ≡ network_in draft (by_depth depth draft.nodes)

-- The draft has this fault.
abbrev pub HasFault : Draft → NetFault → Type 0
HasFault draft (Undefined name) = first_undefined draft ≡ Some name
HasFault draft (Cycle name) = (first_undefined draft ≡ None) × IsFirstOnCycle draft.nodes name
HasFault draft Memory = ⊤
