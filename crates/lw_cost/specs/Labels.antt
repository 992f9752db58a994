-- The marks of the classes of a graph: the least costs of covers, and heights.
use Rattle.std.specs.Prelude.{ℕ, suc, ◌≡◌, List, [], ◌∷◌, Option, Some, None, length, map, option_map}
use Rattle.lw_laws.specs.Graphs.{Graph}
use Rattle.lw_laws.specs.Costs.{Cost}
use Rattle.lw_laws.specs.Covers.{Pattern}
use Rattle.lw_laws.specs.Choices.{IsHeight}
use Rattle.lw_laws.specs.Matches.{IsLeastCover, choices_of}
use Rattle.lw_laws.specs.Marks.{Mark as PlainMark}
use Rattle.lw_laws.specs.Rounds.{labels_in}
use Rattle.lw_laws.specs.Mapped.{IsPotentialOf}
use Rattle.lw_cost.specs.declared.mark.Mark.{Mark}
use Rattle.lw_cost.specs.Values.{AreInRange, marks_in}

-- how many classes have a mark
abbrev pub marked : List (Option Mark) → ℕ
marked [] = 0
marked (None ∷ marks) = marked marks
marked (Some m ∷ marks) = suc (marked marks)

abbrev pub cost_in : Option Mark → Option ℕ
cost_in mark = option_map (λ (m : Mark). m.cost) mark

-- the costs of the marks
abbrev pub costs_of : List (Option Mark) → List (Option ℕ)
costs_of marks = map cost_in marks

-- Each class has a mark where it has a cover: the least cost of its covers, and its height.
pub record AreLeastMarks (g : Graph) (cost : Cost) (pats : List Pattern) (marks : List (Option Mark)) : Type 0 where
  pub one_each : length marks ≡ length g.pairs
  pub least : (c : ℕ) → IsLeastCover g pats cost c (labels_in (costs_of marks) c)
  pub potential : IsPotentialOf g pats cost (costs_of marks)
  pub heights : (c : ℕ) (m : PlainMark) → marks_in marks c ≡ Some m
      → IsHeight (choices_of g cost.pin_counts pats) cost (labels_in (costs_of marks)) c m.height
  -- no cost above the cap, and heights that a number of 32 bits holds
  pub in_range : AreInRange cost.cap marks
