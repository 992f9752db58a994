-- Labels that are lowered until no match would lower one.
use Rattle.std.specs.Prelude.{ℕ, ◌+◌, ◌<◌, ◌≤◌, ◌≡◌, ◌⊎◌, Bool, true, false, List, length, Option, Some}
use Rattle.lw_laws.specs.Graphs.{Graph}
use Rattle.lw_laws.specs.Costs.{Cost}
use Rattle.lw_laws.specs.Covers.{Pattern}
use Rattle.lw_laws.specs.Matches.{choices_of}
use Rattle.lw_laws.specs.Marks.{Mark as PlainMark}
use Rattle.lw_laws.specs.Rounds.{labels_in, total_weight, IsBoundedAt}
use Rattle.lw_laws.specs.Laws.{AreSoundIn}
use Rattle.lw_cost.specs.declared.mark.Mark.{Mark}
use Rattle.lw_cost.specs.Values.{marks_in}
use Rattle.lw_bounds.specs.Bounds.{BoundsState, AreBounds, AreSettledAt, bounds_weight}
use Rattle.lw_cost.specs.Labels.{costs_of}
use Rattle.lw_label.specs.Passes.{Passes}

-- a mark for each class, all of height 0, with costs of covers
pub record AreLowering (g : Graph) (cost : Cost) (pats : List Pattern) (marks : List (Option Mark)) : Type 0 where
  pub one_each : length marks ≡ length g.pairs
  pub sound : AreSoundIn g pats cost (costs_of marks)
  pub flat : (c : ℕ) (m : PlainMark) → marks_in marks c ≡ Some m → m.height ≡ 0

-- there is a mark, of this cost at most
abbrev pub HasCostAtMost : Option Mark → ℕ → Type 0
HasCostAtMost mark cost = (m : Mark) × (mark ≡ Some m) × (m.cost ≤ cost)

-- the mark of a class that may be an input's of this cost: its own where that is not above the cost, or else that of
-- the input
abbrev pub IsLowerOf : Option Mark → ℕ → Mark → Type 0
IsLowerOf mark leaf new =
    ((mark ≡ Some new) × (new.cost ≤ leaf))
    ⊎ ((new ≡ record { cost = leaf; height = 0 }) × ((m : Mark) → mark ≡ Some m → leaf < m.cost))

-- how far the labels can still fall
abbrev pub weight : Cost → List (Option Mark) → ℕ
weight cost marks = total_weight cost.cap (costs_of marks)

-- the labels still are costs of covers, and one has fallen, or none has changed
pub record Takes (g : Graph) (cost : Cost) (pats : List Pattern) (old new : List (Option Mark))
    (changed : Bool) : Type 0 where
  pub lowering : AreLowering g cost pats new
  pub falls : changed ≡ true → weight cost new < weight cost old
  pub same : changed ≡ false → new ≡ old

-- no match at the class would give it a lower label
abbrev pub IsBounded : Graph → Cost → List Pattern → List (Option Mark) → ℕ → Type 0
IsBounded g cost pats marks c = IsBoundedAt (choices_of g cost.pin_counts pats) cost (labels_in (costs_of marks)) c

-- the table of bounds, and the marks
pub record LabelState : Type 0 where
  pub bounds : BoundsState
  pub marks : List (Option Mark)

abbrev pub state : BoundsState → List (Option Mark) → LabelState
state bounds marks = record { bounds = bounds; marks = marks }

-- how far numbers and labels can still fall
abbrev pub state_weight : Cost → LabelState → ℕ
state_weight cost s = bounds_weight s.bounds + weight cost s.marks

-- no number of the class would fall, and, if the table is one of bounds, no match at the class would give it a lower
-- label
abbrev pub IsLabelled : Graph → Cost → List Pattern → LabelState → ℕ → Type 0
IsLabelled g cost pats s c =
    AreSettledAt s.bounds g s.marks c × (AreBounds s.bounds g s.marks → IsBounded g cost pats s.marks c)

-- some number or label has fallen, or none has and none would at these classes
abbrev pub Lowers : Graph → Cost → List Pattern → LabelState → LabelState → (ℕ → Type 0) → Bool → Type 0
Lowers g cost pats old new at changed = Passes (state_weight cost) (IsLabelled g cost pats) old new at changed
