-- Classes whose labels are no bound.
use Rattle.std.specs.Prelude.{ℕ, ◌<◌, ◌≡◌, ◌⊎◌, List, length, Option, Some, None}
use Rattle.lw_laws.specs.Graphs.{Graph}
use Rattle.lw_laws.specs.Costs.{Cost}
use Rattle.lw_laws.specs.Covers.{Pattern}
use Rattle.lw_laws.specs.Choices.{Labels, HaveLabels}
use Rattle.lw_laws.specs.Laws.{IsLeafCost}
use Rattle.lw_laws.specs.Matches.{IsMatchAt}

-- a match at the class whose pins are all labelled costs d
pub record IsMatchCost (g : Graph) (cost : Cost) (pats : List Pattern) (labels : Labels) (c d : ℕ) : Type 0 where
  pub cell : ℕ
  pub pins : List ℕ
  pub stands : IsMatchAt g cost.pin_counts pats c cell pins
  pub pin_labels : List ℕ
  pub have : HaveLabels labels pins pin_labels
  pub value : d ≡ cost.value cell pin_labels

-- an input of the class costs d, or a match at it whose pins are all labelled does
abbrev pub Gives : Graph → Cost → List Pattern → Labels → ℕ → ℕ → Type 0
Gives g cost pats labels c d = IsLeafCost g cost c d ⊎ IsMatchCost g cost pats labels c d

-- there is no label, or it is above d
abbrev pub IsAbove : Option ℕ → ℕ → Type 0
IsAbove None d = Unit {0}
IsAbove (Some l) d = d < l

-- The class fails: it has no label, or one above what an input of it or a match at it with labelled pins costs.
pub record IsFailing (g : Graph) (cost : Cost) (pats : List Pattern) (labels : Labels) (c : ℕ) : Type 0 where
  pub value : ℕ
  pub gives : Gives g cost pats labels c value
  pub above : IsAbove (labels c) value

-- the first class that fails
pub record IsFirstFailing (g : Graph) (cost : Cost) (pats : List Pattern) (labels : Labels) (c : ℕ) : Type 0 where
  pub in_range : c < length g.pairs
  pub fails : IsFailing g cost pats labels c
  pub first : (b : ℕ) → b < c → IsFailing g cost pats labels b → ⊥
