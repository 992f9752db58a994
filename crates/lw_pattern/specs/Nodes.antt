-- Trees as lists of nodes.
use Rattle.std.specs.Prelude.{ℕ, ◌+◌, ◌-◌, List, [], ◌∷◌, ◌++◌, length, fold, slice_index_or}
use Rattle.lw_laws.specs.Trees.{Tree, leaf, const_one, const_zero, inv, nand}
use Rattle.lw_pattern.specs.declared.node.PatNode.{PatNode}
use Rattle.lw_pattern.specs.declared.node.PatNode.TheVariants.{Pin, One, Zero, Inv, Nand}

-- the tree at a place
abbrev pub tree_in : List Tree → ℕ → Tree
tree_in trees place = slice_index_or trees place const_one

-- what a node makes of the trees at the places before it
abbrev pub tree_by : List Tree → PatNode → Tree
tree_by trees (Pin k) = leaf k
tree_by trees One = const_one
tree_by trees Zero = const_zero
tree_by trees (Inv p) = inv (tree_in trees p)
tree_by trees (Nand p q) = nand (tree_in trees p) (tree_in trees q)

-- these trees, and those of more nodes
abbrev pub with_trees : List Tree → List PatNode → List Tree
with_trees trees nodes = fold (λ before node. before ++ tree_by before node ∷ []) trees nodes

-- the tree of each node
unfoldable pub trees_of : List PatNode → List Tree
trees_of nodes = with_trees [] nodes

-- the tree of the node at a place
abbrev pub tree_at : List PatNode → ℕ → Tree
tree_at nodes place = tree_in (trees_of nodes) place

-- the tree of the last node
unfoldable pub tree_of : List PatNode → Tree
tree_of nodes = tree_at nodes (length nodes - 1)

-- how many nodes a tree has
abbrev pub node_count : Tree → ℕ
node_count (leaf k) = 1
node_count const_one = 1
node_count const_zero = 1
node_count (inv t) = node_count t + 1
node_count (nand t u) = node_count t + node_count u + 1

-- the nodes of a tree, the first of them at this place: those of its operands, and then its own
abbrev pub nodes_from : ℕ → Tree → List PatNode
nodes_from first (leaf k) = Pin k ∷ []
nodes_from first const_one = One ∷ []
nodes_from first const_zero = Zero ∷ []
nodes_from first (inv t) = nodes_from first t ++ Inv (first + node_count t - 1) ∷ []
nodes_from first (nand t u) =
    nodes_from first t
    ++ (nodes_from (first + node_count t) u ++ Nand (first + node_count t - 1)
    (first + node_count t + node_count u - 1) ∷ [])

abbrev pub nodes_of : Tree → List PatNode
nodes_of t = nodes_from 0 t
