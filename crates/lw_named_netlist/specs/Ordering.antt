-- Drafts whose names are numbered, and gates with their depths.
use Rattle.std.specs.Prelude.{ℕ, ◌+◌, ◌<◌, ◌≤◌, ◌≡◌, ◌++◌, None, All, List, [], Contains, length, map, slice_index_or}
use Rattle.std.specs.List.{flat_map}
use Rattle.lw_pool.specs.declared.id.NetId.{NetId}
use Rattle.lw_named_netlist.specs.declared.draft.GateDraft.{GateDraft}
use Rattle.lw_named_netlist.specs.declared.draft.DraftGate.{DraftGate}
use Rattle.lw_named_netlist.specs.declared.draft.Wire.{Wire}
use Rattle.lw_named_netlist.specs.Closing.{AreNameDepths, HasNoCycle, drivers, first_twice, first_undriven, links}
use Rattle.lw_named_netlist.specs.Closing.{needs_of}
use Rattle.lw_named_netlist.specs.Closing.{out_of, undriven_in}
use Rattle.lw_dag.specs.Graphs.{most_signals}
use Rattle.lw_dag.specs.Names.{number_in}
use Rattle.lw_named_netlist.specs.Numbered.{depth_at, net_at, numbered, start_at}

-- The names of a draft that has neither of the first two faults, and the numbers of what each gate and wire hangs on.
pub record IsGraphOf (draft : GateDraft) (driven graph : List (List ℕ)) : Type 0 where
  pub names : driven ≡ drivers draft
  pub rows : graph ≡ numbered (drivers draft) (links draft)
  pub few : length (drivers draft) ≤ most_signals
  pub once : first_twice draft ≡ None
  pub known : undriven_in (drivers draft) (flat_map needs_of (links draft)) ≡ None
  pub none : first_undriven draft ≡ None

-- these are the depths of what the gates drive, by place
abbrev pub TellDepths : List ℕ → List DraftGate → (List ℕ → ℕ) → Type 0
TellDepths depths gates depth =
    (k : ℕ) (d : DraftGate) → k < length gates → slice_index_or depths k 0 ≡ depth (slice_index_or gates k d).out

-- The net of the first name starts at an input or a gate, which has the second.
pub data IsStart (draft : GateDraft) : List ℕ → List ℕ → Type 0 where
  of_driver : {name : List ℕ} → Contains (draft.inputs ++ map out_of draft.gates) name → IsStart draft name name
  of_wire : {name start : List ℕ} (wire : Wire) → Contains draft.wires wire → wire.to ≡ name
      → IsStart draft wire.from start → IsStart draft name start

-- the name at which the net of a name starts
abbrev pub start_in : List (List ℕ) → List ℕ → List ℕ → List ℕ
start_in driven starts name = slice_index_or driven (start_at starts (number_in driven name)) []

-- No gate or wire is on a cycle, and depths and starts are right.
pub record AreRight (draft : GateDraft) (depths starts : List ℕ) : Type 0 where
  pub no_cycle : HasNoCycle (links draft)
  pub depth : List ℕ → ℕ
  pub right : AreNameDepths draft depth
  pub depths_each : length depths ≡ length (drivers draft)
  pub told : (k : ℕ) (d : DraftGate) → k < length draft.gates
      → depth_at depths (length draft.inputs + k) ≡ depth (slice_index_or draft.gates k d).out
  pub starts_each : length starts ≡ length (drivers draft)
  pub below : All (λ s. s < length (drivers draft)) starts
  pub own : (name : List ℕ) → Contains (draft.inputs ++ map out_of draft.gates) name
      → start_in (drivers draft) starts name ≡ name
  pub starts_are : (name : List ℕ) → Contains (drivers draft) name
      → IsStart draft name (start_in (drivers draft) starts name)

-- the nets of names, by their numbers
abbrev pub TellNets : List (List ℕ) → List NetId → (List ℕ → ℕ) → Type 0
TellNets driven nets net =
    (name : List ℕ) → Contains driven name → net_at nets (number_in driven name) ≡ record { 0 = net name }

-- the number of the input or gate at which the net of a name starts
abbrev pub net_by : List (List ℕ) → List ℕ → List (List ℕ) → List ℕ → ℕ
net_by driven starts names name = number_in names (start_in driven starts name)
