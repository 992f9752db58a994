-- The marks of the classes of a graph: the least costs of covers, and heights.
use Rattle.std.specs.Prelude.{◌≡◌, List, Option}
use Rattle.lw_laws.specs.Graphs.{Graph}
use Rattle.lw_laws.specs.Costs.{Cost}
use Rattle.lw_laws.specs.Covers.{Pattern}
use Rattle.lw_bounds.specs.Bounds.{AreBounds, BoundsFit, BoundsState}
use Rattle.lw_cost.specs.Labels.{AreLeastMarks}
use Rattle.lw_cost.specs.declared.mark.Mark.{Mark}

-- so they are, with a table of bounds for them
pub record AreBoundedMarks (g : Graph) (cost : Cost) (pats : List Pattern) (b : BoundsState)
    (marks : List (Option Mark)) : Type 0 where
  pub least : AreLeastMarks g cost pats marks
  pub fits : BoundsFit b pats g
  pub bounds : AreBounds b g marks
