-- The parts of patterns as they are collected.
use Rattle.std.specs.Prelude.{ℕ, ◌<◌, ◌≡◌, List, length}
use Rattle.lw_laws.specs.Covers.{Pattern}
use Rattle.lw_pattern.specs.Nodes.{tree_at}
use Rattle.lw_pattern.specs.Listed.{IsKept}
use Rattle.lw_pattern.specs.declared.node.PatNode.{PatNode}
use Rattle.lw_bounds.specs.declared.parts.Part.{Part}
use Rattle.lw_bounds.specs.declared.parts.Side.{Side}
use Rattle.lw_bounds.specs.declared.shapes.Parts.{Parts}
use Rattle.lw_bounds.specs.Shapes.{AreParts, AreMoreParts, IsJoined, JoinsShapes, HasShape, HaveShapes, AllHaveShapes}
use Rattle.lw_bounds.specs.Shapes.{HaveRootShapes, SideFits}

-- such parts, no more of them than there is room for
abbrev pub AreCollected : Parts → Type 0
AreCollected parts = AreParts parts.room parts.all.keys

-- no part is lost: others may stand behind them, and there is room for as many as before
pub record AreMore (before after : Parts) : Type 0 where
  pub room : after.room ≡ before.room
  pub parts : AreCollected after
  pub more : AreMoreParts before.all.keys after.all.keys

-- two sides of such parts
pub record MayJoin (ps : Parts) (l r : Side) : Type 0 where
  pub parts : AreCollected ps
  pub left : SideFits (length ps.all.keys) l
  pub right : SideFits (length ps.all.keys) r

-- a part with two such sides, for which there is room
pub record MayAdd (ps : Parts) (p : Part) : Type 0 where
  pub parts : AreCollected ps
  pub one_more : length ps.all.keys < ps.room
  pub left : SideFits (length ps.all.keys) p.left
  pub right : SideFits (length ps.all.keys) p.right

-- the part is among the parts after, and the side is of it
pub record IsAdded (before after : Parts) (p : Part) (shift : ℕ) (s : Side) : Type 0 where
  pub grown : AreMore before after
  pub joined : IsJoined after.all.keys p shift s

-- the side is the NAND of two sides
pub record IsJoin (before after : Parts) (left right s : Side) : Type 0 where
  pub grown : AreMore before after
  pub shape : JoinsShapes before.all.keys after.all.keys left right s

-- the sides of the first nodes of a pattern, which has one more node
pub record MayTakeSide (ps : Parts) (gaps : List ℕ) (nodes : List PatNode) (ss : List Side) : Type 0 where
  pub parts : AreCollected ps
  pub kept : IsKept nodes
  pub place : length ss < length nodes
  pub sides : HaveShapes ps.all.keys gaps nodes ss

-- the side is that of the next node
pub record IsNextSide (before after : Parts) (gaps : List ℕ) (nodes : List PatNode) (sides : List Side)
    (s : Side) : Type 0 where
  pub grown : AreMore before after
  pub shape : HasShape after.all.keys gaps 0 (tree_at nodes (length sides)) s

-- such parts, and a pattern that is kept
pub record MayTakeSides (ps : Parts) (nodes : List PatNode) : Type 0 where
  pub parts : AreCollected ps
  pub kept : IsKept nodes

-- the sides are those of the nodes, among the parts that have grown
pub record AreSides (before after : Parts) (gaps : List ℕ) (nodes : List PatNode) (sides : List Side) : Type 0 where
  pub grown : AreMore before after
  pub shapes : HaveShapes after.all.keys gaps nodes sides

-- the sides are those of the nodes of each pattern, among such parts with as much room
pub record AreAllSides (before after : Parts) (gaps : List (List ℕ)) (pats : List Pattern)
    (all : List (List Side)) : Type 0 where
  pub room : after.room ≡ before.room
  pub parts : AreCollected after
  pub count : length all ≡ length pats
  pub shapes : AllHaveShapes after.all.keys gaps pats all

-- the roots of the patterns are these sides, where those of their nodes are these
pub record AreRootsOf (pats : List Pattern) (all : List (List Side)) (roots : List Side) : Type 0 where
  pub count : length roots ≡ length pats
  pub shapes : (parts : List Part) (gaps : List (List ℕ)) → AllHaveShapes parts gaps pats all
      → HaveRootShapes parts gaps pats roots
