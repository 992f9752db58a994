-- Gates that stand by height.
use Rattle.std.specs.Prelude.{ℕ, ◌+◌, ◌-◌, ◌^◌, ◌<◌, ◌≤◌, ◌≡◌, cond, nat_lt, All, List, length, map, slice_index_or}
use Rattle.std.specs.List.{range_with_len}
use Rattle.std.specs.List.Sorted.{IsPermutation, IsNonDecreasingBy}
use Rattle.lw_pool.specs.declared.id.CellId.{CellId}
use Rattle.lw_dag.specs.Graphs.{AreHeights, fanins_at, height_at, most_signals}
use Rattle.lw_netlist.specs.declared.gate.Gate.{Gate}
use Rattle.lw_netlist.specs.declared.gate.Port.{Port}
use Rattle.lw_netlist.specs.Plain.{port_name}
use Rattle.lw_backtrace.specs.declared.targets.Targets.{Targets}
use Rattle.lw_backtrace.specs.declared.trail.Walk.{Walk}
use Rattle.lw_trade.specs.declared.assembly.Placing.{Placing}
use Rattle.lw_trade.specs.Traded.{port_net}

-- no cycle is behind a node
abbrev pub HaveHeights : ℕ → List (List ℕ) → Type 0
HaveHeights inputs graph =
    (heights : List ℕ) → AreHeights inputs graph heights → (j : ℕ) → j < length graph
    → 0 < height_at heights (inputs + j)

-- all nodes, none before one that is less high
pub record IsByHeight (inputs : ℕ) (graph : List (List ℕ)) (order : List ℕ) : Type 0 where
  pub heights : List ℕ
  pub are : AreHeights inputs graph heights
  pub moved : IsPermutation (range_with_len 0 (length graph)) order
  pub rising : IsNonDecreasingBy (λ j. height_at heights (inputs + j)) order

-- where each node stands in the order
pub record ArePlaces (order places : List ℕ) : Type 0 where
  pub one_each : length places ≡ length order
  pub low : All (λ p. p < length order) places
  pub at : (k : ℕ) → k < length order → slice_index_or places (slice_index_or order k 0) 0 ≡ k

-- places of nodes beside so many inputs, each less than how many nodes there are
pub record FitPlaces (inputs : ℕ) (places : List ℕ) : Type 0 where
  pub few : inputs + length places ≤ most_signals
  pub low : All (λ p. p < length places) places

-- the nodes are the gates of a walk
pub record FitWalk (inputs : ℕ) (places : List ℕ) (walk : Walk) : Type 0 where
  pub fit : FitPlaces inputs places
  pub cells : length walk.cells.items ≡ length places
  pub rows : length walk.pins.items ≡ length places

-- a net, where the nodes stand in these places
abbrev pub placed_net : ℕ → List ℕ → ℕ → ℕ
placed_net inputs places net = cond (nat_lt net inputs) net (inputs + slice_index_or places (net - inputs) 0)

-- the gate of a node
abbrev pub placed_gate : ℕ → List ℕ → List CellId → List (List ℕ) → ℕ → Gate
placed_gate inputs places cells graph j = record {
  cell = slice_index_or cells j (record { 0 = 0 });
  pins = map (λ p. record { 0 = placed_net inputs places p }) (fanins_at graph j);
  out = record { 0 = placed_net inputs places (inputs + j) };
}

-- the outputs have these names, and stand at these nets
pub record ArePortsAt (inputs : ℕ) (places : List ℕ) (names : List (List ℕ)) (nets : List ℕ)
    (ports : List Port) : Type 0 where
  pub names_are : map port_name ports ≡ names
  pub nets_are : map port_net ports ≡ map (placed_net inputs places) nets

-- what is placed: whether a net is one of it, the net of a node, and the gate of a node, by the places of a walk's
-- nodes
abbrev pub HasNet : Placing → ℕ → Type 0
HasNet at net = net < at.inputs + length at.places.now

abbrev pub net_in : Placing → ℕ → ℕ
net_in at net = placed_net at.inputs at.places.now net

abbrev pub gate_in : Placing → ℕ → Gate
gate_in at j = placed_gate at.inputs at.places.now at.walk.now.cells.items at.walk.now.pins.items j

abbrev pub ArePortsIn : Placing → List (List ℕ) → List ℕ → List Port → Type 0
ArePortsIn at names nets ports = ArePortsAt at.inputs at.places.now names nets ports

-- each output of the targets has a net of so many inputs and gates, and each input a name
pub record MayBeNamed (t : Targets) (inputs gates : ℕ) (ports : List Port) : Type 0 where
  pub few : inputs + gates ≤ most_signals
  pub one_name : length t.inputs ≡ inputs
  pub few_outputs : length t.outputs < 2 ^ 32
  pub one_each : length ports ≡ length t.outputs
  pub nets : All (λ net. net < inputs + gates) (map port_net ports)
