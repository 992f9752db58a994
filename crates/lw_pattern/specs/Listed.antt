-- What a list of patterns is seen as, and what its type keeps.
use Rattle.std.specs.Prelude.{ℕ, ◌<◌, ◌≤◌, ◌≡◌, ◌↔◌, List, length, All, Some, slice_get}
use Rattle.lw_laws.specs.Trees.{leaf, const_one, const_zero, inv, nand, HasLeaf}
use Rattle.lw_laws.specs.Covers.{Pattern as TreeOfCell}
use Rattle.lw_pattern.specs.declared.node.PatNode.{PatNode}
use Rattle.lw_pattern.specs.declared.node.PatNode.TheVariants.{Pin, One, Zero, Inv, Nand}
use Rattle.lw_pattern.specs.declared.pattern.Pattern.{Pattern}
use Rattle.lw_pattern.specs.Nodes.{tree_at, tree_of, nodes_of}

-- a pattern with its nodes, as a pattern with the tree that they spell
abbrev pub pattern_of : Pattern → TreeOfCell
pattern_of p = record { cell = p.cell.0; tree = tree_of p.nodes }

-- a pattern with a tree, as the pattern with its nodes
abbrev pub listed : TreeOfCell → Pattern
listed p = record { cell = record { 0 = p.cell }; nodes = nodes_of p.tree }

-- the tree of the node at a place, made of those at earlier places
abbrev pub IsNodeAt : List PatNode → ℕ → PatNode → Type 0
IsNodeAt nodes place (Pin k) = (k < 16) × (tree_at nodes place ≡ leaf k)
IsNodeAt nodes place One = tree_at nodes place ≡ const_one
IsNodeAt nodes place Zero = tree_at nodes place ≡ const_zero
IsNodeAt nodes place (Inv p) = (p < place) × (tree_at nodes place ≡ inv (tree_at nodes p))
IsNodeAt nodes place (Nand p q) =
    (p < place) × (q < place) × (tree_at nodes place ≡ nand (tree_at nodes p) (tree_at nodes q))

-- how many patterns a library has at most
abbrev pub most_patterns : ℕ
most_patterns = 262144

-- what is kept of the nodes of each pattern
pub record IsKept (nodes : List PatNode) : Type 0 where
  pub some : 0 < length nodes
  pub few : length nodes ≤ 254
  -- the nodes of the tree, and no other
  pub whole : nodes_of (tree_of nodes) ≡ nodes
  pub each : (place : ℕ) (node : PatNode) → slice_get nodes place ≡ Some node → IsNodeAt nodes place node
  -- the pins from 0 on, each of which is a leaf
  pub pin_count : ℕ
  pub few_pins : pin_count ≤ 16
  pub pins : (k : ℕ) → HasLeaf (tree_of nodes) k ↔ (k < pin_count)

-- what a list of patterns keeps
pub record AreKept (items : List Pattern) : Type 0 where
  pub few : length items ≤ most_patterns
  pub each : All (λ (p : Pattern). IsKept p.nodes) items
