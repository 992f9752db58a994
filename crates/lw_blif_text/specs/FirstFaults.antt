-- The first line that breaks a rule, where it is known which rule a line breaks behind the lines before it.
use Rattle.std.specs.Prelude.{ℕ, List, [], ◌∷◌, ◌++◌, Option, Some, None}
use Rattle.lw_words.specs.Lines.{LogicalLine}

-- a rule, and the number of the line that breaks it
pub record FaultAt (K : Type 0) : Type 0 where
  pub number : ℕ
  pub kind : K

-- that of the line with this number, or else the other
abbrev pub fault_or : {K : Type 0} → ℕ → Option K → Option (FaultAt K) → Option (FaultAt K)
fault_or number (Some kind) other = Some (record { number = number; kind = kind })
fault_or number None other = other

-- the first of the lines behind these that breaks a rule
unfoldable pub first_fault_by : {K : Type 0} → (List LogicalLine → LogicalLine → Option K) → List LogicalLine
    → List LogicalLine → Option (FaultAt K)
first_fault_by fault before [] = None
first_fault_by fault before (line ∷ lines) =
    fault_or line.number (fault before line) (first_fault_by fault (before ++ line ∷ []) lines)
