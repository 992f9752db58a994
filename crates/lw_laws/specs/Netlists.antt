-- Netlists of gates: values, arrivals, and the covers that nets stand for.
use Rattle.std.specs.Prelude.{ℕ, ◌+◌, ◌<◌, ◌≤◌, ◌≡◌, Bool, false, List, [], ◌∷◌, length, map, Some, slice_get}
use Rattle.std.specs.Prelude.{slice_index_or, Contains}
use Rattle.std.specs.List.{AllByRecursion}
use Rattle.lw_laws.specs.Trees.{tree_value}
use Rattle.lw_laws.specs.Networks.{greatest_depth}
use Rattle.lw_laws.specs.Covers.{Timing, start_of, Pattern, HasPins, Cover, Covers, latest, delays_of}
use Rattle.lw_laws.specs.Costs.{Cost}
use Rattle.lw_laws.specs.Covers.Cover.{wire, gate}
use Rattle.lw_laws.specs.Covers.Covers.{no_covers, cover}

pub record Gate : Type 0 where
  pub cell : ℕ
  pub pins : List ℕ

-- nets below inputs are inputs, and gate j drives net inputs + j
pub record Netlist : Type 0 where
  pub inputs : ℕ
  pub gates : List Gate

-- gate j of the list
abbrev pub IsGate : Netlist → ℕ → Gate → Type 0
IsGate n j g = slice_get n.gates j ≡ Some g

-- a gate's pins are nets before its own
abbrev pub AreOrdered : Netlist → Type 0
AreOrdered n = (j : ℕ) (g : Gate) → IsGate n j g → AllByRecursion (λ p. p < n.inputs + j) g.pins

-- each gate has a net for each pin of its cell
abbrev pub HaveCellPins : List ℕ → Netlist → Type 0
HaveCellPins pin_counts n = (j : ℕ) (g : Gate) → IsGate n j g → HasPins pin_counts g.cell (length g.pins)

-- the truth of each cell at the truths of its pins
abbrev pub CellTruth : Type 0
CellTruth = ℕ → List Bool → Bool

-- The assignment of a value to each net is right for these values of the inputs: each gate has the truth of its cell.
pub record AreNetlistValues (truth : CellTruth) (n : Netlist) (x : ℕ → Bool) (values : List Bool) : Type 0 where
  pub one_each : length values ≡ n.inputs + length n.gates
  pub inputs : (i : ℕ) → i < n.inputs → slice_get values i ≡ Some (x i)
  pub gates : (j : ℕ) (g : Gate) → IsGate n j g → slice_get values (n.inputs + j) ≡ Some
      (truth g.cell (map (λ p. slice_index_or values p false) g.pins))

-- The arrivals of the nets: an input's is its start, and a gate's the greatest of its pins' delays and arrivals.
pub record AreArrivals (timing : Timing) (n : Netlist) (arrivals : List ℕ) : Type 0 where
  pub one_each : length arrivals ≡ n.inputs + length n.gates
  pub inputs : (i : ℕ) → i < n.inputs → slice_get arrivals i ≡ Some (start_of timing.starts i)
  pub gates : (j : ℕ) (g : Gate) → IsGate n j g → slice_get arrivals (n.inputs + j) ≡ Some
      (latest (delays_of timing.delays g.cell) (map (λ p. slice_index_or arrivals p 0) g.pins))

-- The depths of the nets: 0 at an input, and at a gate 1 more than the greatest of its pins'.
pub record AreNetDepths (n : Netlist) (depths : List ℕ) : Type 0 where
  pub one_each : length depths ≡ n.inputs + length n.gates
  pub inputs : (i : ℕ) → i < n.inputs → slice_get depths i ≡ Some 0
  pub gates : (j : ℕ) (g : Gate) → IsGate n j g → slice_get depths (n.inputs + j) ≡ Some
      (1 + greatest_depth depths g.pins)

-- no gate stands before one that is less deep
abbrev pub AreByDepth : Netlist → Type 0
AreByDepth n = (depths : List ℕ) → AreNetDepths n depths → (i j : ℕ) → i < j → j < length n.gates
    → slice_index_or depths (n.inputs + i) 0 ≤ slice_index_or depths (n.inputs + j) 0

-- The costs of the nets: an input's is its leaf's, and a gate's that of its cell over its pins' costs.
pub record AreNetCosts (cost : Cost) (n : Netlist) (costs : List ℕ) : Type 0 where
  pub one_each : length costs ≡ n.inputs + length n.gates
  pub inputs : (i : ℕ) → i < n.inputs → slice_get costs i ≡ Some (cost.leaf i)
  pub gates : (j : ℕ) (g : Gate) → IsGate n j g → slice_get costs (n.inputs + j) ≡ Some
      (cost.value g.cell (map (λ p. slice_index_or costs p 0) g.pins))

-- the net stands for the cover
abbrev mutual
  pub StandsFor : Netlist → Cover → ℕ → Type 0
  StandsFor n (wire i) net = (net ≡ i) × (i < n.inputs)
  StandsFor n (gate p ks) net =
      (j : ℕ) × (g : Gate) × IsGate n j g × (net ≡ n.inputs + j) × (g.cell ≡ p.cell) × StandForAll n ks g.pins

  pub StandForAll : Netlist → Covers → List ℕ → Type 0
  StandForAll n no_covers nets = nets ≡ []
  StandForAll n (cover k ks) nets =
      (net : ℕ) × (rest : List ℕ) × (nets ≡ net ∷ rest) × StandsFor n k net × StandForAll n ks rest

-- the pattern has the truth of its cell, where the list has one truth value for each pin
abbrev pub HasCellTruth : List ℕ → CellTruth → Pattern → Type 0
HasCellTruth pin_counts truth p =
    (ys : List Bool) → slice_get pin_counts p.cell ≡ Some (length ys)
    → tree_value (λ k. slice_index_or ys k false) p.tree ≡ truth p.cell ys

-- each pattern has the truth of its cell
abbrev pub HaveCellTruths : List ℕ → CellTruth → List Pattern → Type 0
HaveCellTruths pin_counts truth pats = (p : Pattern) → Contains pats p → HasCellTruth pin_counts truth p
