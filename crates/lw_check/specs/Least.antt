-- The least of some numbers, and what is looked for at classes and matches.
use Rattle.std.specs.Prelude.{ℕ, ◌<◌, ◌≤◌, ◌≡◌, nat_lt, if◌then◌else◌, Bool, true, false, List, length, Option, Some}
use Rattle.std.specs.Prelude.{None, option_map, slice_get, slice_index_or}
use Rattle.lw_fixed.specs.declared.micro.Micro.{Micro}
use Rattle.lw_genlib.specs.Tables.{millionths}
use Rattle.lw_laws.specs.Graphs.{Graph}
use Rattle.lw_laws.specs.Costs.{Cost}
use Rattle.lw_laws.specs.Covers.{Pattern, HasPins}
use Rattle.lw_laws.specs.Choices.{Labels, HaveLabels}
use Rattle.lw_laws.specs.Extracts.{Match}
use Rattle.lw_laws.specs.Laws.{IsLeafCost}
use Rattle.lw_laws.specs.Mapped.{IsPotentialOf}
use Rattle.lw_laws.specs.Rounds.{labels_in}
use Rattle.lw_bounds.specs.Bounds.{AreBounds, BoundsFit, BoundsState}
use Rattle.lw_cost.specs.Least.{AreOfCells}
use Rattle.lw_cost.specs.Values.{AreInRange}
use Rattle.lw_cost.specs.declared.mark.Mark.{Mark}
use Rattle.lw_check.specs.declared.trial.Unbounded.{Unbounded}
use Rattle.lw_check.specs.Failing.{IsMatchCost, IsAbove, Gives, IsFirstFailing}

-- the least number with a property, or none where no number has it
abbrev pub IsLeastOf : (ℕ → Type 0) → Option ℕ → Type 0
IsLeastOf P None = (n : ℕ) → P n → ⊥
IsLeastOf P (Some n) = P n × ((m : ℕ) → P m → n ≤ m)

abbrev pub lesser_of : Option ℕ → Option ℕ → Option ℕ
lesser_of None b = b
lesser_of (Some a) None = Some a
lesser_of (Some a) (Some b) = if nat_lt b a then Some b else Some a

-- an input of the class costs less than its label, or the class has none
abbrev pub IsLate : Graph → Cost → Labels → ℕ → Type 0
IsLate g cost labels c = (d : ℕ) × IsLeafCost g cost c d × IsAbove (labels c) d

-- a match at the class with labelled pins costs less than its label, or the class has none
abbrev pub IsLow : Graph → Cost → List Pattern → Labels → ℕ → Type 0
IsLow g cost pats labels c = (d : ℕ) × IsMatchCost g cost pats labels c d × IsAbove (labels c) d

-- the match is by a pattern of the list, with a class for each pin of its cell
pub record IsByPattern (pin_counts : List ℕ) (pats : List Pattern) (m : Match) : Type 0 where
  pub pattern : Pattern
  pub listed : slice_get pats m.pattern ≡ Some pattern
  pub pins : HasPins pin_counts pattern.cell (length m.pins)

-- the match has labelled pins and costs d
pub record CostsBy (cost : Cost) (pats : List Pattern) (labels : Labels) (m : Match) (d : ℕ) : Type 0 where
  pub pattern : Pattern
  pub listed : slice_get pats m.pattern ≡ Some pattern
  pub pin_labels : List ℕ
  pub have : HaveLabels labels m.pins pin_labels
  pub value : d ≡ cost.value pattern.cell pin_labels

-- these are the labels of the classes, or a class has none
abbrev pub ReadsLabels : Labels → List ℕ → List ℕ → Bool → Type 0
ReadsLabels labels classes ls true = HaveLabels labels classes ls
ReadsLabels labels classes ls false = (other : List ℕ) → HaveLabels labels classes other → ⊥

-- what a match costs, or none where a pin has no label
abbrev pub IsCostOf : Cost → List Pattern → Labels → Match → Option ℕ → Type 0
IsCostOf cost pats labels m None = (ls : List ℕ) → HaveLabels labels m.pins ls → ⊥
IsCostOf cost pats labels m (Some d) = CostsBy cost pats labels m d

-- the match has labelled pins and costs less than the label, or there is none
abbrev pub IsLowMatch : Cost → List Pattern → Labels → Option ℕ → Match → Type 0
IsLowMatch cost pats labels label m = (d : ℕ) × CostsBy cost pats labels m d × IsAbove label d

-- the labels of so many classes, as numbers
pub record ArePlainLabels (labels : List (Option Micro)) (classes : ℕ) (plain : List (Option ℕ)) : Type 0 where
  pub one_each : length plain ≡ classes
  pub each : (c : ℕ) → c < classes → labels_in plain c ≡ option_map millionths (slice_index_or labels c None)

-- a mark with this cost, and no height
abbrev pub flat_mark : Option ℕ → Option Mark
flat_mark None = None
flat_mark (Some l) = Some (record { cost = l; height = 0 })

abbrev pub AreFlat : List (Option Mark) → Type 0
AreFlat marks = (c : ℕ) (m : Mark) → slice_index_or marks c None ≡ Some m → m.height ≡ 0

-- the table bounds what matches cost under the marks, so that a search may use it
pub record IsTableFor (g : Graph) (cost : Cost) (pats : List Pattern) (cap : ℕ) (b : BoundsState)
    (marks : List (Option Mark)) : Type 0 where
  pub one_each : length marks ≡ length g.pairs
  pub in_range : AreInRange cap marks
  pub of_cells : AreOfCells cost.pin_counts pats
  pub fit : BoundsFit b pats g
  pub bounds : AreBounds b g marks

-- The labels are a potential, or this is the first class that fails, and the least that it is given.
abbrev pub FindsUnbounded : Graph → Cost → List Pattern → List (Option ℕ) → Option Unbounded → Type 0
FindsUnbounded g cost pats labels None = IsPotentialOf g pats cost labels
FindsUnbounded g cost pats labels (Some u) =
    IsFirstFailing g cost pats (labels_in labels) u.class.0
    × IsLeastOf (Gives g cost pats (labels_in labels) u.class.0) (Some u.value)

-- the least that a class is given, with the class, or none where it is given nothing
abbrev pub IsLeastAt : Graph → Cost → List Pattern → Labels → ℕ → Option Unbounded → Type 0
IsLeastAt g cost pats labels c None = (d : ℕ) → Gives g cost pats labels c d → ⊥
IsLeastAt g cost pats labels c (Some u) = (u.class.0 ≡ c) × IsLeastOf (Gives g cost pats labels c) (Some u.value)
