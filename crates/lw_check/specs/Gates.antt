-- Gates as matches by the patterns of their cells.
use Rattle.std.specs.Prelude.{ℕ, ◌<◌, ◌≡◌, Bool, true, false, List, length, map, Option, None, Some, slice_get}
use Rattle.lw_pool.specs.declared.id.CellId.{CellId}
use Rattle.lw_pool.specs.declared.id.ClassId.{ClassId}
use Rattle.lw_pool.specs.declared.id.NetId.{NetId}
use Rattle.lw_laws.specs.Covers.{Pattern}
use Rattle.lw_laws.specs.Graphs.{Stands}
use Rattle.lw_check.specs.Claims.{Claim, class_of_net, AreMatches, IsMatchAtPlace}
use Rattle.lw_check.specs.Spans.{IsIn}
use Rattle.lw_check.specs.declared.spans.Span.{Span}
use Rattle.lw_pool.specs.Numbers.{numbers}

-- the nets have these classes, or some net has none
abbrev pub AreClassesOf : Claim → List NetId → Option (List ClassId) → Type 0
AreClassesOf k nets None = (ps : List ℕ) → map (class_of_net k) nets ≡ map Some ps → ⊥
AreClassesOf k nets (Some classes) = map (class_of_net k) nets ≡ map Some (numbers classes)

-- the pattern at the place is of the cell, and stands at the class with its pins at these classes
pub record IsMatchBy (k : Claim) (place : ℕ) (cell : CellId) (ps : List ℕ) (class : ClassId) : Type 0 where
  pub pattern : Pattern
  pub listed : slice_get k.pats place ≡ Some pattern
  pub of_cell : pattern.cell ≡ cell.0
  pub stands : Stands k.graph ps pattern.tree class.0

-- a pattern of the cell stands at the class with its pins at these classes, or none in the span does
abbrev pub FindsMatch : Claim → Span → CellId → List ℕ → ClassId → Bool → Type 0
FindsMatch k span cell ps class true = (place : ℕ) × IsMatchBy k place cell ps class
FindsMatch k span cell ps class false = (place : ℕ) → IsIn span place → IsMatchBy k place cell ps class → ⊥

-- each gate is a match, or this is the place of the first that is none
pub record IsNoMatchAt (k : Claim) (place : ℕ) : Type 0 where
  pub within : place < length k.mapped.netlist.gates
  pub no_match : IsMatchAtPlace k place → ⊥
  pub before : (j : ℕ) → j < place → IsMatchAtPlace k j

abbrev pub FindsNoMatch : Claim → Option ℕ → Type 0
FindsNoMatch k None = AreMatches k
FindsNoMatch k (Some place) = IsNoMatchAt k place
