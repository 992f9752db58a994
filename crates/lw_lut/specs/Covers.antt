-- Covers of trees by lookup tables, and their depths.
use Rattle.std.specs.Prelude.{ℕ, suc, ◌≤◌, ◌≡◌, max, List, [], ◌∷◌, ◌++◌, length, Option, Some, None}
use Rattle.std.specs.List.{range_with_len}
use Rattle.std.specs.List.Sorted.{IsPermutation}
use Rattle.lw_laws.specs.Trees.{Tree, leaf, const_one, const_zero, inv, nand, planted}
use Rattle.lw_laws.specs.Graphs.{Graph, Unfolds}
use Rattle.lw_laws.specs.Modes.{Mode}
use Rattle.lw_laws.specs.Forms.{Form}
use Rattle.lw_laws.specs.Signals.{Signal}
use Rattle.lw_laws.specs.Decompositions.{HasTree}

-- an input, or a table by a tree over its pins with a cover for each pin
mutual
  pub data TableCover : Type 0 where
    wire : ℕ → TableCover
    table : Tree → TableCovers → TableCover

  pub data TableCovers : Type 0 where
    no_covers : TableCovers
    cover : TableCover → TableCovers → TableCovers

abbrev mutual
  pub tree_of : TableCover → Tree
  tree_of (wire i) = leaf i
  tree_of (table p ks) = planted p (trees_of ks)

  pub trees_of : TableCovers → List Tree
  trees_of no_covers = []
  trees_of (cover k ks) = tree_of k ∷ trees_of ks

-- the leaves of a tree, from left to right
abbrev pub leaves_of : Tree → List ℕ
leaves_of (leaf k) = k ∷ []
leaves_of const_one = []
leaves_of const_zero = []
leaves_of (inv t) = leaves_of t
leaves_of (nand t u) = leaves_of t ++ leaves_of u

-- each of so many pins, numbered from 0, is a leaf of the tree exactly once, and nothing else is
abbrev pub HasPinsOnce : ℕ → Tree → Type 0
HasPinsOnce pins p = IsPermutation (range_with_len 0 pins) (leaves_of p)

-- each table has at most so many pins, each of which its tree has exactly once
abbrev mutual
  pub IsTableCover : ℕ → TableCover → Type 0
  IsTableCover most (wire i) = Unit {0}
  IsTableCover most (table p ks) =
      (length (trees_of ks) ≤ most) × HasPinsOnce (length (trees_of ks)) p × AreTableCovers most ks

  pub AreTableCovers : ℕ → TableCovers → Type 0
  AreTableCovers most no_covers = Unit {0}
  AreTableCovers most (cover k ks) = IsTableCover most k × AreTableCovers most ks

-- the number of tables on the longest path
abbrev mutual
  pub depth_of : TableCover → ℕ
  depth_of (wire i) = 0
  depth_of (table p ks) = suc (greatest_depth ks)

  pub greatest_depth : TableCovers → ℕ
  greatest_depth no_covers = 0
  greatest_depth (cover k ks) = max (depth_of k) (greatest_depth ks)

-- Of all covers by tables of at most so many pins of trees that the rules derive for the form, the shallowest has this
-- depth.
pub record HasLeastDepth (mode : Mode) (width : ℕ) (signals : List Signal) (most : ℕ) (f : Form) (d : ℕ) : Type 0 where
  pub attained : (k : TableCover) × IsTableCover most k × HasTree mode width signals f (tree_of k) × (depth_of k ≡ d)
  pub least : (k : TableCover) → IsTableCover most k → HasTree mode width signals f (tree_of k) → d ≤ depth_of k

-- the least depth of a cover of a tree of the class, and none where no tree unfolds there
abbrev pub IsLeastDepth : Graph → ℕ → ℕ → Option ℕ → Type 0
IsLeastDepth g most c (Some d) =
    ((k : TableCover) × IsTableCover most k × Unfolds g (tree_of k) c × (depth_of k ≡ d))
    × ((k : TableCover) → IsTableCover most k → Unfolds g (tree_of k) c → d ≤ depth_of k)
IsLeastDepth g most c None = (t : Tree) → Unfolds g t c → ⊥
