-- Where the patterns of each cell stand.
use Rattle.std.specs.Prelude.{ℕ, ◌+◌, ◌≤◌, ◌<◌, ◌≡◌, List, length, Some, slice_get}
use Rattle.lw_laws.specs.Covers.{Pattern}
use Rattle.lw_check.specs.declared.spans.Span.{Span}

-- the place is one of the span
abbrev pub IsIn : Span → ℕ → Type 0
IsIn span place = (span.first ≤ place) × (place < span.end)

-- the new span has the places of the old one and this one, which is its last
pub record IsWith (old : Span) (place : ℕ) (new : Span) : Type 0 where
  pub own : IsIn new place
  pub others : (j : ℕ) → IsIn old j → IsIn new j
  pub end : new.end ≡ place + 1

-- each pattern is of one of so many cells
abbrev pub HasCellsBelow : ℕ → List Pattern → Type 0
HasCellsBelow cells pats = (j : ℕ) (p : Pattern) → slice_get pats j ≡ Some p → p.cell < cells

-- a span for each cell, which has the places of the first patterns of the cell, and ends where these do
pub record AreSpansOf (cells count : ℕ) (pats : List Pattern) (spans : List Span) : Type 0 where
  pub one_each : length spans ≡ cells
  pub places : (j : ℕ) (p : Pattern) (span : Span) → j < count → slice_get pats j ≡ Some p
      → slice_get spans p.cell ≡ Some span → IsIn span j
  pub ends : (cell : ℕ) (span : Span) → slice_get spans cell ≡ Some span → span.end ≤ count

-- a span for each cell, with the places of all patterns of the cell
abbrev pub AreSpans : ℕ → List Pattern → List Span → Type 0
AreSpans cells pats spans = AreSpansOf cells (length pats) pats spans
