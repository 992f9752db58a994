-- What is kept of a draft while it is closed, and where its gates stand.
use Rattle.std.specs.Prelude.{ℕ, ◌+◌, ◌<◌, ◌≤◌, ◌≡◌, ◌++◌, All, List, [], Contains, length, map, slice_index_or}
use Rattle.std.specs.List.{IsDistinct}
use Rattle.std.specs.Str.{bytes_eq}
use Rattle.lw_dag.specs.Graphs.{most_signals}
use Rattle.lw_pool.specs.declared.id.CellId.{CellId}
use Rattle.lw_pool.specs.declared.id.NetId.{NetId}
use Rattle.lw_named_netlist.specs.declared.closing.Links.{Links}
use Rattle.lw_named_netlist.specs.declared.graph.Graph.{Graph}
use Rattle.lw_named_netlist.specs.declared.draft.DraftGate.{DraftGate}
use Rattle.lw_named_netlist.specs.declared.draft.GateDraft.{GateDraft}
use Rattle.lw_netlist.specs.declared.gate.Gate.{Gate}
use Rattle.lw_netlist.specs.declared.gate.Port.{Port}
use Rattle.lw_named_netlist.specs.Closing.{closed_gate, netlist_in, out_of, port_at}
use Rattle.lw_netlist.specs.Netlists.{IsNetlist, most_nets}
use Rattle.lw_named_netlist.specs.Numbered.{start_at}
use Rattle.lw_named_netlist.specs.Ordering.{IsGraphOf, TellNets, net_by, start_in}

abbrev pub cell_of : DraftGate → CellId
cell_of gate = gate.cell

-- the gate at a place
abbrev pub gate_at : List DraftGate → ℕ → DraftGate
gate_at gates place = slice_index_or gates place (record { cell = record { 0 = 0 }; pins = []; out = [] })

-- the gates at some places
abbrev pub gates_at : List DraftGate → List ℕ → List DraftGate
gates_at gates places = map (gate_at gates) places

-- the names of the inputs, and then of the gates at some places
abbrev pub names_at : GateDraft → List ℕ → List (List ℕ)
names_at draft places = draft.inputs ++ map out_of (gates_at draft.gates places)

-- the name of the signal that the gate at a place drives
abbrev pub signal_at : ℕ → List (List ℕ) → ℕ → List ℕ
signal_at inputs signals place = slice_index_or signals (inputs + place) []

-- The links of a draft that has neither of the first two faults, and the cells of its gates.
pub record AreLinksOf (draft : GateDraft) (l : Links) : Type 0 where
  pub graph : IsGraphOf draft l.signals l.rows.items
  pub cells : l.cells.items ≡ map cell_of draft.gates

-- This is kept of a draft that has neither of the first two faults.
pub record IsMadeOf (draft : GateDraft) (g : Graph) : Type 0 where
  pub graph : IsGraphOf draft g.signals g.rows.items
  pub model : g.model ≡ draft.model
  pub inputs : g.inputs ≡ length draft.inputs
  pub first : g.first ≡ draft.inputs
  pub outputs : g.outputs ≡ draft.outputs
  pub cells : g.cells.items ≡ map cell_of draft.gates

-- The numbers of inputs and gates among the nets, where the gates stand at these places.
pub record AreTurned (inputs : ℕ) (places turned : List ℕ) : Type 0 where
  pub own : (s : ℕ) → s < inputs → start_at turned s ≡ s
  pub gates : (k : ℕ) → k < length places → start_at turned (inputs + slice_index_or places k 0) ≡ inputs + k

-- The gates can stand at these places, where the nets of names start there.
pub record IsPlaced (draft : GateDraft) (g : Graph) (starts places : List ℕ) : Type 0 where
  pub made : IsMadeOf draft g
  pub many : length places ≡ length draft.gates
  pub within : All (λ p. p < length draft.gates) places
  pub distinct : IsDistinct bytes_eq (names_at draft places)
  pub few : length (names_at draft places) ≤ most_nets
  pub starts_each : length starts ≡ length g.signals
  pub below : All (λ s. s < length g.signals) starts
  pub started : (name : List ℕ) → Contains g.signals name
      → Contains (names_at draft places) (start_in g.signals starts name)
  pub outputs : All (Contains g.signals) draft.outputs
  pub kept : IsNetlist
      (netlist_in draft (gates_at draft.gates places) (net_by g.signals starts (names_at draft places)))

-- These are places of gates, each once, among so many signals.
pub record ArePlaces (inputs signals : ℕ) (places : List ℕ) : Type 0 where
  pub few : signals ≤ most_signals
  pub first : inputs + length places ≤ signals
  pub within : All (λ p. inputs + p < signals) places
  pub differ : (j k : ℕ) → j < k → k < length places → slice_index_or places j 0 ≡ slice_index_or places k 0 → ⊥

-- These are the nets of all signals, and the gates at some places with nets in place of names.
pub record AreGatesBy (g : Graph) (starts places : List ℕ) (nets : List NetId) (gates : List Gate) : Type 0 where
  pub count : length nets ≡ length g.signals
  pub nets_are : (turned : List ℕ)
      × (AreTurned g.inputs places turned × (nets ≡ map (λ s. record { 0 = start_at turned s }) starts))
  pub gates_are : (draft : GateDraft) (net : List ℕ → ℕ) → IsMadeOf draft g → TellNets g.signals nets net
      → gates ≡ map (closed_gate net) (gates_at draft.gates places)

-- The gates at some places and the outputs have names among the signals, and there is a net for each signal.
pub record CanBeNamed (g : Graph) (places : List ℕ) (nets : List NetId) : Type 0 where
  pub places_within : All (λ p. g.inputs + p < length g.signals) places
  pub count : length nets ≡ length g.signals
  pub known : All (Contains g.signals) g.outputs

-- These are the model, the names of inputs and of gates at some places, and the outputs with their nets.
pub record IsNamed (g : Graph) (places : List ℕ) (nets : List NetId) (model : List ℕ) (names : List (List ℕ))
    (outputs : List Port) : Type 0 where
  pub model_is : model ≡ g.model
  pub names_are : names ≡ g.first ++ map (signal_at g.inputs g.signals) places
  pub outputs_are : (net : List ℕ → ℕ) → TellNets g.signals nets net → outputs ≡ map (port_at net) g.outputs
