-- The class at which each node of a pattern stands.
use Rattle.std.specs.Prelude.{ℕ, ◌<◌, ◌≤◌, ◌≡◌, List, All, length, Option, None, Some, slice_index_or}
use Rattle.lw_pool.specs.declared.id.ClassId.{ClassId}
use Rattle.lw_laws.specs.Graphs.{Graph, Stands}
use Rattle.lw_laws.specs.Trees.{Tree}
use Rattle.lw_pattern.specs.Nodes.{tree_at}
use Rattle.lw_pattern.specs.Listed.{IsKept}
use Rattle.lw_pattern.specs.declared.node.PatNode.{PatNode}
use Rattle.lw_pool.specs.Numbers.{numbers}
use Rattle.lw_check.specs.declared.standing.Placed.{Placed}

abbrev pub AreWithin : Graph → List ClassId → Type 0
AreWithin g classes = All (λ (class : ClassId). class.0 < length g.pairs) classes

-- With its leaves at these classes the tree stands at this class alone, or at none.
abbrev pub StandsAlone : Graph → List ℕ → Tree → Option ClassId → Type 0
StandsAlone g w t None = (c : ℕ) → Stands g w t c → ⊥
StandsAlone g w t (Some class) =
    Stands g w t class.0 × ((c : ℕ) → Stands g w t c → c ≡ class.0) × (class.0 < length g.pairs)

-- the classes at which the first nodes stand
abbrev pub AreStanding : Graph → List ℕ → List PatNode → ℕ → List (Option ClassId) → Type 0
AreStanding g w nodes count classes =
    (j : ℕ) → j < count → StandsAlone g w (tree_at nodes j) (slice_index_or classes j None)

-- what is kept of the pattern's nodes, and the classes of its pins are those of the graph
pub record IsPlaced (p : Placed) : Type 0 where
  pub kept : IsKept p.nodes.now
  pub pins : AreWithin p.graph.now p.pins.now

-- the class at which the node at the place stands, if it does
abbrev pub IsClassAt : Placed → ℕ → Option ClassId → Type 0
IsClassAt p place class = StandsAlone p.graph.now (numbers p.pins.now) (tree_at p.nodes.now place) class

-- there is room for the class of each node, and the classes of the nodes before this one are there
pub record AreClassesBefore (p : Placed) (place : ℕ) (classes : List (Option ClassId)) : Type 0 where
  pub inside : place < length p.nodes.now
  pub room : length p.nodes.now ≤ length classes
  pub standing : AreStanding p.graph.now (numbers p.pins.now) p.nodes.now place classes
