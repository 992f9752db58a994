-- What a draft is closed to: a netlist, or the first name that is driven twice, or that nothing drives, or the first
-- gate or wire on a cycle.
use Rattle.std.specs.Prelude.{ℕ, ◌+◌, ◌-◌, ◌^◌, ◌<◌, ◌≡◌, ◌==◌, not, cond, Option, Some, None, ⊤, List, [], ◌∷◌, ◌++◌}
use Rattle.std.specs.Prelude.{map, length, filter, find, slice_get, Contains, All}
use Rattle.std.specs.List.{flat_map, range_with_len}
pub use Rattle.lw_dag.specs.Names.{is_among}
pub use Rattle.lw_dag.specs.Ordering.{greatest}
use Rattle.lw_genlib.specs.Cells.{CellParts}
use Rattle.lw_named_netlist.specs.declared.draft.DraftGate.{DraftGate}
use Rattle.lw_named_netlist.specs.declared.draft.GateDraft.{GateDraft}
use Rattle.lw_named_netlist.specs.declared.draft.Wire.{Wire}
use Rattle.lw_named_netlist.specs.declared.fault.NetlistFault.{NetlistFault}
use Rattle.lw_named_netlist.specs.declared.fault.NetlistFault.TheVariants.{Twice, Undriven, Cycle, Memory}
use Rattle.lw_netlist.specs.declared.gate.Gate.{Gate}
use Rattle.lw_netlist.specs.declared.gate.Port.{Port}
use Rattle.lw_netlist.specs.Netlists.{NetlistParts}

-- A gate or a wire: the name that it drives, and the names that it hangs on.
pub record Link : Type 0 where
  pub name : List ℕ
  pub needs : List (List ℕ)

abbrev pub name_of : Link → List ℕ
name_of link = link.name

abbrev pub needs_of : Link → List (List ℕ)
needs_of link = link.needs

-- a gate hangs on its pins
abbrev pub gate_link : DraftGate → Link
gate_link gate = record { name = gate.out; needs = gate.pins }

-- a wire hangs on its source
abbrev pub wire_link : Wire → Link
wire_link wire = record { name = wire.to; needs = wire.from ∷ [] }

-- the gates, and then the wires
abbrev pub links : GateDraft → List Link
links draft = map gate_link draft.gates ++ map wire_link draft.wires

-- what is driven: by inputs, then by gates, then by wires
abbrev pub drivers : GateDraft → List (List ℕ)
drivers draft = draft.inputs ++ map name_of (links draft)

-- a gate of a cell of the library, with a name for each pin
pub record IsOfCell (cells : List CellParts) (gate : DraftGate) : Type 0 where
  pub cell : CellParts
  pub at : slice_get cells gate.cell.0 ≡ Some cell
  pub pins : length gate.pins ≡ length cell.pins

-- what is asked of a draft
pub record IsGateDraft (cells : List CellParts) (draft : GateDraft) : Type 0 where
  pub gates : All (IsOfCell cells) draft.gates
  pub few : length draft.inputs + length draft.gates < 2 ^ 32 - 1

-- the first of the names that stands before it, or is one of those that were seen
abbrev pub twice_after : List (List ℕ) → List (List ℕ) → Option (List ℕ)
twice_after seen [] = None
twice_after seen (name ∷ names) = cond (is_among seen name) (Some name) (twice_after (seen ++ name ∷ []) names)

-- the first name that an earlier driver has
abbrev pub first_twice : GateDraft → Option (List ℕ)
first_twice draft = twice_after [] (drivers draft)

-- the first of the names that nothing drives
abbrev pub undriven_in : List (List ℕ) → List (List ℕ) → Option (List ℕ)
undriven_in driven names = find (λ name. not (is_among driven name)) names

-- the first pin, or else source of a wire, or else output that nothing drives
abbrev pub first_undriven : GateDraft → Option (List ℕ)
first_undriven draft = undriven_in (drivers draft) (flat_map needs_of (links draft) ++ draft.outputs)

-- The net of one name hangs on that of the other.
pub record Hangs (ls : List Link) (from to : List ℕ) : Type 0 where
  pub link : Link
  pub among : Contains ls link
  pub named : link.name ≡ from
  pub on : Contains link.needs to

-- From one name the other is reached in one step or more.
pub data Reaches (ls : List Link) : List ℕ → List ℕ → Type 0 where
  by_step : {from to : List ℕ} → Hangs ls from to → Reaches ls from to
  by_path : {from next to : List ℕ} → Hangs ls from next → Reaches ls next to → Reaches ls from to

-- nothing reaches itself
abbrev pub HasNoCycle : List Link → Type 0
HasNoCycle ls = (name : List ℕ) → Reaches ls name name → ⊥

-- The name is that of the first gate or, where no gate does, of the first wire that reaches itself.
pub record IsFirstOnCycle (ls : List Link) (name : List ℕ) : Type 0 where
  pub place : ℕ
  pub within : place < length ls
  pub named : slice_get (map name_of ls) place ≡ Some name
  pub cycle : Reaches ls name name
  pub first : (j : ℕ) (other : List ℕ) → j < place → slice_get (map name_of ls) j ≡ Some other → Reaches ls other other
      → ⊥

-- The depths of the names: 0 at an input, at a gate 1 more than the greatest of its pins, and at a wire that of its
-- source.
pub record AreNameDepths (draft : GateDraft) (depth : List ℕ → ℕ) : Type 0 where
  pub inputs : All (λ name. depth name ≡ 0) draft.inputs
  pub gates : All (λ (gate : DraftGate). depth gate.out ≡ 1 + greatest (map depth gate.pins)) draft.gates
  pub wires : All (λ (wire : Wire). depth wire.to ≡ depth wire.from) draft.wires

abbrev pub out_of : DraftGate → List ℕ
out_of gate = gate.out

-- the gates by depth, and at one depth as they are given
abbrev pub by_depth : (List ℕ → ℕ) → List DraftGate → List DraftGate
by_depth depth gates =
    flat_map (λ d. filter (λ (gate : DraftGate). depth gate.out == d) gates)
    (range_with_len 1 (greatest (map (λ (gate : DraftGate). depth gate.out) gates)))

-- The net that a name comes to, where the gates stand in this order: that of the input or of the gate, or that of a
-- wire's source.
pub data IsNetNamed (draft : GateDraft) (order : List DraftGate) : List ℕ → ℕ → Type 0 where
  at_input : {name : List ℕ} (place : ℕ) → slice_get draft.inputs place ≡ Some name → IsNetNamed draft order name place
  at_gate : {name : List ℕ} (place : ℕ) → slice_get (map out_of order) place ≡ Some name
      → IsNetNamed draft order name (length draft.inputs + place)
  at_wire : {name : List ℕ} {net : ℕ} (wire : Wire) → Contains draft.wires wire → wire.to ≡ name
      → IsNetNamed draft order wire.from net → IsNetNamed draft order name net

-- a gate with nets in place of names
abbrev pub closed_gate : (List ℕ → ℕ) → DraftGate → Gate
closed_gate net gate =
    record { cell = gate.cell; pins = map (λ pin. record { 0 = net pin }) gate.pins; out = record { 0 = net gate.out } }

-- an output with its net
abbrev pub port_at : (List ℕ → ℕ) → List ℕ → Port
port_at net name = record { name = name; net = record { 0 = net name } }

-- the netlist whose gates stand in this order, with these nets of the names
abbrev pub netlist_in : GateDraft → List DraftGate → (List ℕ → ℕ) → NetlistParts
netlist_in draft order net = record {
  model = draft.model;
  names = draft.inputs ++ map out_of order;
  inputs = length draft.inputs;
  gates = map (closed_gate net) order;
  outputs = map (port_at net) draft.outputs;
}

-- The draft has no fault, and these are the parts of its netlist, with its gates by depth.
pub record IsClosed (draft : GateDraft) (parts : NetlistParts) : Type 0 where
  pub once : first_twice draft ≡ None
  pub driven : first_undriven draft ≡ None
  pub no_cycle : HasNoCycle (links draft)
  pub depth : List ℕ → ℕ
  pub depths : AreNameDepths draft depth
  pub net : List ℕ → ℕ
  pub nets : (name : List ℕ) → Contains (drivers draft) name
      → IsNetNamed draft (by_depth depth draft.gates) name (net name)
  pub are : parts ≡ netlist_in draft (by_depth depth draft.gates) net

-- The draft has this fault, and none of those that are looked for before it.
abbrev pub HasFault : GateDraft → NetlistFault → Type 0
HasFault draft (Twice name) = first_twice draft ≡ Some name
HasFault draft (Undriven name) = (first_twice draft ≡ None) × (first_undriven draft ≡ Some name)
HasFault draft (Cycle name) =
    (first_twice draft ≡ None) × (first_undriven draft ≡ None) × IsFirstOnCycle (links draft) name
HasFault draft Memory = ⊤
