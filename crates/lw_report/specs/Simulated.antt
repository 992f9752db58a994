-- What a network or a netlist gives for a list of vectors: a line of its outputs' values for each.
use Rattle.std.specs.Prelude.{ℕ, ◌≡◌, Bool, false, List, [], ◌∷◌, ◌++◌, map, slice_index_or, if◌then◌else◌}
use Rattle.lw_pool.specs.declared.id.NetId.{NetId}
use Rattle.lw_laws.specs.Networks.{AreValues, given}
use Rattle.lw_laws.specs.Netlists.{AreNetlistValues}
use Rattle.lw_net.specs.Networks.{NetworkParts}
use Rattle.lw_net.specs.Plain as network
use Rattle.lw_genlib.specs.Cells.{CellParts}
use Rattle.lw_genlib.specs.Tables.{truth_of_cells}
use Rattle.lw_netlist.specs.declared.gate.Port.{Port}
use Rattle.lw_netlist.specs.Netlists.{NetlistParts}
use Rattle.lw_netlist.specs.Plain as netlist

-- a byte `1` or `0`
abbrev pub digit : Bool → ℕ
digit value = if value then 49 else 48

-- the values of some nets, and a line end
abbrev pub value_line : List Bool → List NetId → List ℕ
value_line values nets = map (λ (net : NetId). digit (slice_index_or values net.0 false)) nets ++ 10 ∷ []

abbrev pub port_net : Port → NetId
port_net port = port.net

-- The network's outputs have the values of the line, where its inputs have those of the vector.
pub record IsNetworkLine (n : NetworkParts) (vector : List Bool) (line : List ℕ) : Type 0 where
  pub values : List Bool
  pub are : AreValues (network.plain n) (given vector) values
  pub says : line ≡ value_line values n.outputs

-- The netlist's outputs have the values of the line, where its inputs have those of the vector.
pub record IsNetlistLine (cells : List CellParts) (n : NetlistParts) (vector : List Bool) (line : List ℕ) : Type 0 where
  pub values : List Bool
  pub are : AreNetlistValues (truth_of_cells cells) (netlist.plain n) (given vector) values
  pub says : line ≡ value_line values (map port_net n.outputs)

-- a line for each vector, in order
pub data AreLines (IsLine : List Bool → List ℕ → Type 0) : List (List Bool) → List ℕ → Type 0 where
  no_lines : AreLines IsLine [] []
  next_line : {vector : List Bool} {line : List ℕ} {vectors : List (List Bool)} {text : List ℕ} → IsLine vector line
      → AreLines IsLine vectors text → AreLines IsLine (vector ∷ vectors) (line ++ text)

-- The simulation of the network for these vectors.
abbrev pub IsNetworkSimulation : NetworkParts → List (List Bool) → List ℕ → Type 0
IsNetworkSimulation n vectors text = AreLines (IsNetworkLine n) vectors text

-- The simulation of the netlist for these vectors.
abbrev pub IsNetlistSimulation : List CellParts → NetlistParts → List (List Bool) → List ℕ → Type 0
IsNetlistSimulation cells n vectors text = AreLines (IsNetlistLine cells n) vectors text
