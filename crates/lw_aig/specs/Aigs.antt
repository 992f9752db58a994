-- And-inverter graphs, and the values of their nodes.
use Rattle.std.specs.Prelude.{ℕ, ◌<◌, ◌≤◌, ◌≡◌, Bool, false, ◌&&◌, Some, ⊤, List, length, slice_get}
use Rattle.lw_aig.specs.declared.gate.Gate.{Gate}
use Rattle.lw_aig.specs.declared.gate.Gate.TheVariants.{Zero, Input, And}
use Rattle.lw_aig.specs.declared.literal.Literal.{Literal}
use Rattle.lw_aig.specs.Literals.{literal_value, node_of}

-- the node has a value that its gate allows
abbrev pub Allows : Gate → (ℕ → Bool) → ℕ → Type 0
Allows Zero v n = v n ≡ false
Allows Input v n = ⊤
Allows (And a b) v n = v n ≡ (literal_value v a && literal_value v b)

-- v gives each node a value that its gate allows.
pub record AreNodeValues (gates : List Gate) (v : ℕ → Bool) : Type 0 where
  pub allowed : (n : ℕ) (gate : Gate) → slice_get gates n ≡ Some gate → Allows gate v n

-- the literal is one of a node below n
abbrev pub IsBelow : ℕ → Literal → Type 0
IsBelow n l = node_of l < n

-- both literals of a gate are of earlier nodes
abbrev pub IsLater : Gate → ℕ → Type 0
IsLater Zero n = ⊤
IsLater Input n = ⊤
IsLater (And a b) n = IsBelow n a × IsBelow n b

-- how many nodes there are at most
abbrev pub most_nodes : ℕ
most_nodes = 2147483648

-- Node 0 is the constant, each gate stands behind what it joins, and literals have 32 bits.
pub record IsAig (gates : List Gate) : Type 0 where
  pub zero_first : slice_get gates 0 ≡ Some Zero
  pub in_order : (n : ℕ) (gate : Gate) → slice_get gates n ≡ Some gate → IsLater gate n
  pub few : length gates ≤ most_nodes

-- Two literals have one value, whatever the values of the inputs are.
pub record AreEqual (gates : List Gate) (l m : Literal) : Type 0 where
  pub always : (v : ℕ → Bool) → AreNodeValues gates v → literal_value v l ≡ literal_value v m

-- A literal is the conjunction of two others, whatever the values of the inputs are.
pub record IsConjunction (gates : List Gate) (a b l : Literal) : Type 0 where
  pub within : IsBelow (length gates) l
  pub always : (v : ℕ → Bool) → AreNodeValues gates v → literal_value v l ≡ (literal_value v a && literal_value v b)

-- The values of the inputs are free: some values of all nodes have these.
pub record HasValues (gates : List Gate) (x : ℕ → Bool) : Type 0 where
  pub values : ℕ → Bool
  pub are : AreNodeValues gates values
  pub inputs : (n : ℕ) → slice_get gates n ≡ Some Input → values n ≡ x n
