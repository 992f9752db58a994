-- Which classes hold pairs with a class, between two numbers.
use Rattle.std.specs.Prelude.{ℕ, ◌*◌, ◌/◌, ◌<◌, ◌≤◌, ◌≡◌, List, All, Contains, Option, length, slice_index}
use Rattle.std.specs.Prelude.{slice_index_or}
use Rattle.lw_graph.specs.declared.pair.Pair.{Pair}
use Rattle.lw_laws.specs.Graphs.{Graph, HoldsPair}
use Rattle.lw_lut.specs.Searches.{IsBoundedAt, IsKnown, count_at}
use Rattle.lw_lut.specs.declared.span.Span.{Span}

-- from the first class on and before the last
pub record IsIn (span : Span) (c : ℕ) : Type 0 where
  pub first : span.low ≤ c
  pub last : c < span.high

-- the classes of one are in the other
abbrev pub IsWithin : Span → Span → Type 0
IsWithin one other = (c : ℕ) → IsIn one c → IsIn other c

-- the classes of both are in the whole
pub record SpansBoth (a b whole : Span) : Type 0 where
  pub one : IsWithin a whole
  pub other : IsWithin b whole

-- the span of a place
abbrev pub span_at : List Span → ℕ → Span
span_at reach place = slice_index_or reach place (record { low = 0; high = 0 })

-- no span has lost a class
pub record AreGrown (old new : List Span) : Type 0 where
  pub one_each : length new ≡ length old
  pub spans : (k : ℕ) → IsWithin (span_at old k) (span_at new k)

-- class c is in the spans of the places of both classes of a pair
abbrev pub IsSeen : List Span → ℕ → ℕ → ℕ → Type 0
IsSeen reach c x y = IsIn (span_at reach (x / 2)) c × IsIn (span_at reach (y / 2)) c

-- class c is in the spans of the places of both classes of each pair of a row
abbrev pub AreSeen : List Span → ℕ → List Pair → Type 0
AreSeen reach c row = (p : Pair) → Contains row p → IsSeen reach c p.x.0 p.y.0

-- Each class that holds a pair is in the spans of the places of both its classes.
abbrev pub AreReaches : Graph → List Span → Type 0
AreReaches g reach = (c x y : ℕ) → HoldsPair g c x y → IsSeen reach c x y

-- both classes of each pair have a place among so many
abbrev pub HaveEnds : ℕ → List Pair → Type 0
HaveEnds places row = All (λ (p : Pair). (p.x.0 / 2 < places) × (p.y.0 / 2 < places)) row

-- a span for each place
pub record AreReachesOf (g : Graph) (reach : List Span) : Type 0 where
  pub one_each : length g.pairs ≡ 2 * length reach
  pub reaches : AreReaches g reach

-- each class that is not in the span is bounded
abbrev pub AreBoundedBut : Graph → List ℕ → Span → Type 0
AreBoundedBut g counts span = (c : ℕ) → c < length g.pairs → (IsIn span c → ⊥) → IsBoundedAt g counts c

-- no class of the place is in the span
abbrev pub IsOutside : Span → ℕ → Type 0
IsOutside span place = (c : ℕ) → c / 2 ≡ place → IsIn span c → ⊥

-- each class that has few enough leaves, and whose place is outside the span, is known
abbrev pub AreKnownBut : ℕ → List ℕ → List (Option ℕ) → Span → Type 0
AreKnownBut most counts depths span =
    (c : ℕ) → c / 2 < length counts → IsOutside span (c / 2) → count_at counts c ≤ most → IsKnown depths c

-- Counts have fallen at one place at most, and where they have, its span is within another.
pub record FallsAt (reach : List Span) (old new : List ℕ) (place : ℕ) (span : Span) : Type 0 where
  pub fewer : (k : ℕ) → slice_index new k ≤ slice_index old k
  pub elsewhere : (k : ℕ) → (k ≡ place → ⊥) → slice_index new k ≡ slice_index old k
  pub seen : (slice_index new place ≡ slice_index old place → ⊥) → IsWithin (span_at reach place) span
