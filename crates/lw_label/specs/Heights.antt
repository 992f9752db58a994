-- Heights that are found along matches that attain labels.
use Rattle.std.specs.Prelude.{ℕ, suc, ◌<◌, ◌≤◌, ◌≡◌, ◌^◌, Bool, true, false, ◌+◌, ◌-◌, List, [], ◌∷◌, length, Option}
use Rattle.std.specs.Prelude.{Some, None, slice_get, slice_index_or, slice_set, ◌⊎◌}
use Rattle.lw_laws.specs.Graphs.{Graph}
use Rattle.lw_laws.specs.Costs.{Cost}
use Rattle.lw_laws.specs.Covers.{Pattern}
use Rattle.lw_laws.specs.Choices.{IsWithin}
use Rattle.lw_laws.specs.Matches.{IsMatchAt, choices_of}
use Rattle.lw_laws.specs.Marks.{Mark as PlainMark, HaveMarks, costs_in, greatest_height}
use Rattle.lw_laws.specs.Rounds.{labels_in}
use Rattle.lw_laws.specs.Laws.{AreBoundedIn, IsCoverProblem}
use Rattle.lw_graph.specs.Graphs.{IsGraph}
use Rattle.lw_cost.specs.declared.mark.Mark.{Mark}
use Rattle.lw_cost.specs.Labels.{costs_of, marked}
use Rattle.lw_cost.specs.Values.{marks_in}
use Rattle.lw_cost.specs.declared.mark.Best.{Best}
use Rattle.lw_bounds.specs.Bounds.{AreBounds, BoundsFit, BoundsState}
use Rattle.lw_label.specs.Lowering.{AreLowering}
use Rattle.lw_cost.specs.Least.{AreOfCells}
use Rattle.lw_label.specs.Orders.{ArePartsStill, IsStillAt}
use Rattle.lw_label.specs.Passes.{Passes}
use Rattle.lw_match.specs.Cutting.{AreKnown, TopsState}
use Rattle.lw_label.specs.declared.heights.Given.{Given}

-- gates along matches that attain the labels lead from the class to inputs in h steps at most
abbrev pub IsWithinSteps : Graph → Cost → List Pattern → List (Option Mark) → ℕ → ℕ → Type 0
IsWithinSteps g cost pats labels c h =
    IsWithin (choices_of g cost.pin_counts pats) cost (labels_in (costs_of labels)) c h

-- the class has a mark, whose height is at most h
abbrev pub HasHeightAtMost : List (Option Mark) → ℕ → ℕ → Type 0
HasHeightAtMost marks c h = (m : PlainMark) × (marks_in marks c ≡ Some m) × (m.height ≤ h)

-- Some classes have a mark: their label, and a number of steps to inputs, which is not above the number of marks.
pub record AreHeightMarks (g : Graph) (cost : Cost) (pats : List Pattern)
    (labels marks : List (Option Mark)) : Type 0 where
  pub one_each : length marks ≡ length g.pairs
  pub costs : (c : ℕ) (m : PlainMark) → marks_in marks c ≡ Some m → labels_in (costs_of labels) c ≡ Some m.cost
  pub within : (c : ℕ) (m : PlainMark) → marks_in marks c ≡ Some m → IsWithinSteps g cost pats labels c m.height
  pub inputs : (i c : ℕ) → slice_get g.leaves i ≡ Some c → HasHeightAtMost marks c 0
  pub low : (c : ℕ) (m : PlainMark) → marks_in marks c ≡ Some m → m.height ≤ marked marks

-- what a class without a mark weighs
abbrev pub no_height : ℕ
no_height = 2 ^ 32

abbrev pub height_weight : Option Mark → ℕ
height_weight None = no_height
height_weight (Some m) = m.height

-- what a height has to be below, so that it lowers that of a class, which is no height of a match where there is none
abbrev pub height_limit : Option Mark → ℕ
height_limit None = 2 ^ 32 - 1
height_limit (Some m) = m.height

-- how far the heights can still fall
abbrev pub heights_weight : List (Option Mark) → ℕ
heights_weight [] = 0
heights_weight (m ∷ marks) = height_weight m + heights_weight marks

-- the marks still are labels with numbers of steps, and a height has been found or has fallen, or none has changed
pub record TakesHeight (g : Graph) (cost : Cost) (pats : List Pattern) (labels old new : List (Option Mark))
    (changed : Bool) : Type 0 where
  pub heights : AreHeightMarks g cost pats labels new
  pub falls : changed ≡ true → heights_weight new < heights_weight old
  pub same : changed ≡ false → new ≡ old

-- a match at the class that attains its label, and whose pins have marks, gives it no less height
abbrev pub IsReached : Graph → Cost → List Pattern → List (Option Mark) → List (Option Mark) → ℕ → Type 0
IsReached g cost pats labels marks c =
    (cell : ℕ) (ps : List ℕ) (ms : List PlainMark) → IsMatchAt g cost.pin_counts pats c cell ps
    → HaveMarks (marks_in marks) ps ms → labels_in (costs_of labels) c ≡ Some (cost.value cell (costs_in ms))
    → HasHeightAtMost marks c (suc (greatest_height ms))

-- the marks are the same at all but these classes
abbrev pub AreSameBut : (ℕ → Type 0) → List (Option Mark) → List (Option Mark) → Type 0
AreSameBut at old new =
    (c : ℕ) → (at c → ⊥) → slice_index_or new c None ≡ slice_index_or old c None

-- the marks, where a class gets that of a match that was found
abbrev pub with_mark : List (Option Mark) → ℕ → Option Best → List (Option Mark)
with_mark marks c None = marks
with_mark marks c (Some best) = slice_set marks c (Some best.mark)

-- what heights are found from: a graph with the patterns of cells, least labels, and a table of bounds for them
pub record AreGiven (g : Graph) (cost : Cost) (pats : List Pattern) (b : BoundsState)
    (labels : List (Option Mark)) : Type 0 where
  pub of_cells : AreOfCells cost.pin_counts pats
  pub graph : IsGraph g
  pub problem : IsCoverProblem g pats cost
  pub lowering : AreLowering g cost pats labels
  pub bounded : AreBoundedIn g pats cost (costs_of labels)
  pub fits : BoundsFit b pats g
  pub bounds : AreBounds b g labels

-- the first mark costs more than the other, or is no lower, so that no match at the other's class has it at a pin and
-- less height
abbrev pub IsNoPin : Option Mark → Option Mark → Type 0
IsNoPin mark other =
    (m : Mark) → mark ≡ Some m → (o : Mark) × (other ≡ Some o) × ((o.cost < m.cost) ⊎ (o.height ≤ m.height))

-- the places that are still have parts that are still, and no match would lower a height there
pub record AreStill (g : Graph) (cost : Cost) (pats : List Pattern) (labels marks : List (Option Mark))
    (still : List Bool) : Type 0 where
  pub parts : (c : ℕ) → IsStillAt still c → ArePartsStill g still c
  pub reached : (c : ℕ) → IsStillAt still c → IsReached g cost pats labels marks c

-- some height has been found or has fallen, or none has and none would at these classes
abbrev pub LowersHeights : Graph → Cost → List Pattern → List (Option Mark) → List (Option Mark) → List (Option Mark)
    → (ℕ → Type 0) → Bool → Type 0
LowersHeights g cost pats labels old new at changed =
    Passes heights_weight (IsReached g cost pats labels) old new at changed

-- What heights are found by: what is given, what is known of gaps, and the marks so far.
pub record IsHeightSearch {C : _} (cost : Cost) (d : Given C) (tops : TopsState)
    (marks : List (Option Mark)) : Type 0 where
  pub given : AreGiven d.task.now.graph.now cost d.task.now.pats.now d.bounds.now d.labels.now
  pub known : AreKnown cost d.task.now.pats.now d.bounds.now.gaps tops
  pub heights : AreHeightMarks d.task.now.graph.now cost d.task.now.pats.now d.labels.now marks

-- no match at the class would lower its height, by what is given
abbrev pub IsReachedFrom : {C : _} → Cost → Given C → List (Option Mark) → ℕ → Type 0
IsReachedFrom cost d marks c = IsReached d.task.now.graph.now cost d.task.now.pats.now d.labels.now marks c

abbrev pub LowersFrom : {C : _} → Cost → Given C → List (Option Mark) → List (Option Mark) → (ℕ → Type 0) → Bool
    → Type 0
LowersFrom cost d old new at changed =
    LowersHeights d.task.now.graph.now cost d.task.now.pats.now d.labels.now old new at changed

abbrev pub TakesFrom : {C : _} → Cost → Given C → List (Option Mark) → List (Option Mark) → Bool → Type 0
TakesFrom cost d old new changed =
    TakesHeight d.task.now.graph.now cost d.task.now.pats.now d.labels.now old new changed
