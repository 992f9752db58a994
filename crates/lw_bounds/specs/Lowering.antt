-- Numbers of parts that fall to what pairs give.
use Rattle.std.specs.Prelude.{ℕ, ◌<◌, ◌≤◌, ◌≡◌, Bool, List, length, Some, IsTrue, IsFalse, slice_get, slice_index}
use Rattle.lw_graph.specs.Graphs.{IsGraph}
use Rattle.lw_bounds.specs.declared.lowering.Plan.{Plan}
use Rattle.lw_bounds.specs.declared.parts.Part.{Part}
use Rattle.lw_bounds.specs.declared.parts.Rule.{Rule}
use Rattle.lw_bounds.specs.declared.renewing.Renewal.{Renewal}
use Rattle.lw_bounds.specs.declared.rows.View.{View}
use Rattle.lw_bounds.specs.Bounds.{total, AreRows}
use Rattle.lw_bounds.specs.Numbers.{IsReading, Reading}
use Rattle.lw_bounds.specs.Places.{given, AreGrouped, AreNoMore, AreNumbers, IsView}
use Rattle.lw_bounds.specs.Shapes.{AreClosed}

-- none of the numbers rose, and it is said whether one fell
pub record AreLessened (old new : List ℕ) (fell : Bool) : Type 0 where
  pub no_more : AreNoMore new old
  pub falls : IsTrue fell → total new < total old
  pub same : IsFalse fell → new ≡ old

-- a number for each of these parts, whose sides name parts
pub record AreNumbersOf (parts : List Part) (least : List ℕ) : Type 0 where
  pub closed : AreClosed parts
  pub one_each : length least ≡ length parts
  pub numbers : AreNumbers least

-- the lists at two classes
pub record AreViews (width : ℕ) (v w : View) : Type 0 where
  pub one : IsView width v
  pub other : IsView width w

-- such numbers, the rules of the parts, and what the numbers of their sides are read from
pub record IsPlanned (r : Reading) (plan : Plan) (least : List ℕ) : Type 0 where
  pub reading : IsReading r
  pub width_is : r.width ≡ length plan.parts.now
  pub grouped : AreGrouped plan.parts.now plan.groups.now
  pub least_are : AreNumbersOf plan.parts.now least

-- a class of the graph, a mark or none for each class, the rows of the table, the rules of its parts, and room for a
-- row
pub record IsRenewal (to_do : Renewal) (plan : Plan) (room numbers : List ℕ) : Type 0 where
  pub graph : IsGraph to_do.graph.now
  pub class : to_do.class.0 < length to_do.graph.now.pairs
  pub one_each : length to_do.marks.now ≡ length to_do.graph.now.pairs
  pub rows : AreRows plan.parts.now to_do.starts.now numbers to_do.graph.now
  pub grouped : AreGrouped plan.parts.now plan.groups.now
  pub least : length room ≡ length plan.parts.now

-- the number of each rule's part is not above what two lists give
abbrev pub AreAtMostGiven : List Rule → List ℕ → List ℕ → List ℕ → Type 0
AreAtMostGiven rules xs ys least =
    (i : ℕ) (q : Rule) → slice_get rules i ≡ Some q → slice_index least q.part ≤ given xs ys q
