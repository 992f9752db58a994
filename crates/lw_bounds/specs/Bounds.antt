-- Bounds on what the pins cost where a part of a pattern stands.
use Rattle.std.specs.Prelude.{ℕ, ◌+◌, ◌-◌, ◌<◌, ◌≤◌, ◌≡◌, ◌⊎◌, Bool, true, false, List, [], length, min, max, Option}
use Rattle.std.specs.Prelude.{Some, slice_get, slice_index, slice_index_or}
use Rattle.std.specs.List.{sum_by}
use Rattle.lw_laws.specs.Graphs.{Graph, HoldsPair, Stands}
use Rattle.lw_laws.specs.Trees.{Tree}
use Rattle.lw_laws.specs.Covers.{Pattern}
use Rattle.lw_laws.specs.Marks.{Mark as PlainMark, HaveMarks, greatest_height}
use Rattle.lw_graph.specs.Graphs.{IsGraph}
use Rattle.lw_cost.specs.declared.mark.Mark.{Mark}
use Rattle.lw_bounds.specs.declared.parts.Side.{Side}
use Rattle.lw_bounds.specs.declared.parts.Part.{Part}
use Rattle.lw_cost.specs.Values.{marks_in}
use Rattle.lw_bounds.specs.Shapes.{SideFits, HasShape, AllHaveShapes, HaveRootShapes, AreClosed}
use Rattle.lw_bounds.specs.Numbers.{never, no_row, start_of, AreStarts, IsReading, Reading, number_from, part_number}
use Rattle.lw_bounds.specs.Numbers.{side_number}

-- the parts, the gaps of the pins of each pattern, the side of each node of each pattern and of its root, where the row
-- of each class starts, and the numbers of the parts in these rows
pub record BoundsState : Type 0 where
  pub parts : List Part
  pub gaps : List (List ℕ)
  pub sides : List (List Side)
  pub roots : List Side
  pub starts : List ℕ
  pub numbers : List ℕ

abbrev pub reading_of : Graph → List (Option Mark) → List Part → List ℕ → List ℕ → Reading
reading_of g marks parts starts numbers =
    record { one = g.one; marks = marks; width = length parts; starts = starts; numbers = numbers }

abbrev pub bounds_reading : BoundsState → Graph → List (Option Mark) → Reading
bounds_reading b g marks = reading_of g marks b.parts b.starts b.numbers

-- each class without a row has no pairs
abbrev pub AreBare : List ℕ → Graph → Type 0
AreBare starts g =
    (c : ℕ) → start_of starts c ≡ no_row → slice_index_or g.pairs c [] ≡ []

-- the rows of two classes have no number in common
abbrev pub AreApart : ℕ → List ℕ → Type 0
AreApart width starts =
    (c d : ℕ) → (c ≡ d → ⊥) → (start_of starts c ≡ no_row → ⊥) → (start_of starts d ≡ no_row → ⊥)
    → (start_of starts c + width ≤ start_of starts d) ⊎ (start_of starts d + width ≤ start_of starts c)

-- a row for each class that has pairs, with a number for each part
pub record AreRows (parts : List Part) (starts numbers : List ℕ) (g : Graph) : Type 0 where
  pub closed : AreClosed parts
  pub rows : AreStarts (length parts) starts (length numbers)
  pub bare : AreBare starts g
  pub apart : AreApart (length parts) starts

-- the table is of these patterns and this graph
pub record BoundsFit (b : BoundsState) (pats : List Pattern) (g : Graph) : Type 0 where
  pub rows : AreRows b.parts b.starts b.numbers g
  pub count : length b.sides ≡ length pats
  pub sides : AllHaveShapes b.parts b.gaps pats b.sides
  pub root_count : length b.roots ≡ length pats
  pub roots : HaveRootShapes b.parts b.gaps pats b.roots

-- the number of the part at the class is not above what any pair of the class gives
abbrev pub IsSettledAt : Graph → Reading → List Part → ℕ → ℕ → Type 0
IsSettledAt g r parts c n =
    (p : Part) (x y : ℕ) → slice_get parts n ≡ Some p → HoldsPair g c x y
    → part_number r n c ≤ max (side_number r p.left x) (side_number r p.right y)

-- so are those of the first parts
abbrev pub AreSettledBelow : Graph → Reading → List Part → ℕ → ℕ → Type 0
AreSettledBelow g r parts c n = (k : ℕ) → k < n → IsSettledAt g r parts c k

abbrev pub AreSettledAt : BoundsState → Graph → List (Option Mark) → ℕ → Type 0
AreSettledAt b g marks c = AreSettledBelow g (bounds_reading b g marks) b.parts c (length b.parts)

-- all numbers are 0
abbrev pub AreZero : List ℕ → Type 0
AreZero numbers = (k : ℕ) → slice_index numbers k ≡ 0

-- a table of these patterns and this graph, with these gaps, whose numbers are all 0
pub record IsFreshTable (pats : List Pattern) (g : Graph) (own : List (List ℕ)) (b : BoundsState) : Type 0 where
  pub fits : BoundsFit b pats g
  pub zero : AreZero b.numbers
  pub gaps : b.gaps ≡ own

-- the numbers of all but these classes are those of before
abbrev pub AreRowsBut : ℕ → List ℕ → (ℕ → Type 0) → List ℕ → List ℕ → Type 0
AreRowsBut width starts at old new =
    (n c : ℕ) → n < width → (at c → ⊥) → number_from new n (start_of starts c) ≡ number_from old n (start_of starts c)

-- the numbers of the parts at the class are not above what any pair of it gave before
abbrev pub AreLowered : Graph → Reading → List Part → List ℕ → ℕ → Type 0
AreLowered g old parts new c =
    (n : ℕ) (p : Part) (x y : ℕ) → slice_get parts n ≡ Some p → HoldsPair g c x y
    → number_from new n (start_of old.starts c) ≤ max (side_number old p.left x) (side_number old p.right y)

-- the table with other numbers
abbrev pub with_numbers : BoundsState → List ℕ → BoundsState
with_numbers b numbers =
    record { parts = b.parts; gaps = b.gaps; sides = b.sides; roots = b.roots; starts = b.starts; numbers = numbers }

-- the table, where only the numbers of these classes are others
pub record IsTableBut (at : ℕ → Type 0) (old new : BoundsState) : Type 0 where
  pub table : new ≡ with_numbers old new.numbers
  pub size : length new.numbers ≡ length old.numbers
  pub others : AreRowsBut (length old.parts) old.starts at old.numbers new.numbers

-- the classes of the pins have marks, of which none costs more with the gap of its pin
abbrev pub AreMarkedWithin : List (Option Mark) → List ℕ → List ℕ → ℕ → Type 0
AreMarkedWithin marks gaps ps top =
    (k c : ℕ) → slice_get ps k ≡ Some c → (m : PlainMark) × (marks_in marks c ≡ Some m)
    × (m.cost + slice_index gaps k ≤ top)

-- where a tree stands whose pins have marks, the number of its side is not above the greatest cost of a pin with its
-- gap
abbrev pub BoundsTree : Graph → Reading → List ℕ → Tree → Side → Type 0
BoundsTree g r gaps t s =
    (c : ℕ) (ps : List ℕ) (top : ℕ) → Stands g ps t c → AreMarkedWithin r.marks gaps ps top
    → side_number r s c ≤ min top (never - 1)

-- the number of the side may be read at each class of the graph
pub record IsReadable (g : Graph) (r : Reading) (s : Side) : Type 0 where
  pub fits : SideFits r.width s
  pub reading : IsReading r
  pub one_each : length r.marks ≡ length g.pairs

-- where a tree stands whose pins have marks, the number of its side is not above their greatest height
abbrev pub BoundsHeight : Graph → Reading → List (Option Mark) → Tree → Side → Type 0
BoundsHeight g r marks t s =
    (c : ℕ) (ps : List ℕ) (ms : List PlainMark) → Stands g ps t c → HaveMarks (marks_in marks) ps ms
    → side_number r s c ≤ greatest_height ms

abbrev pub AreBounds : BoundsState → Graph → List (Option Mark) → Type 0
AreBounds b g marks =
    (gaps : List ℕ) (t : Tree) (s : Side) → HasShape b.parts gaps 0 t s
    → BoundsTree g (bounds_reading b g marks) gaps t s

abbrev pub total : List ℕ → ℕ
total ns = sum_by (λ n. n) ns

-- the sum of all numbers
abbrev pub bounds_weight : BoundsState → ℕ
bounds_weight b = total b.numbers

-- the numbers of a class fell to what its pairs gave, or they were that and stayed
pub record IsRowRenewed (g : Graph) (old : Reading) (parts : List Part) (new : List ℕ) (c : ℕ)
    (fell : Bool) : Type 0 where
  pub size : length new ≡ length old.numbers
  pub falls : fell ≡ true → total new < total old.numbers
  pub same : fell ≡ false → new ≡ old.numbers
  pub lowered : AreLowered g old parts new c
  pub others : AreRowsBut (length parts) old.starts (λ d. d ≡ c) old.numbers new

-- a table of these patterns and this graph, with a mark or none for each class, and so many times
pub record IsTableWithTimes (b : BoundsState) (times : ℕ) (pats : List Pattern) (g : Graph)
    (marks : List (Option Mark)) : Type 0 where
  pub one_each : length marks ≡ length g.pairs
  pub times_are : times ≡ length g.pairs
  pub fit : BoundsFit b pats g

-- a number of the table fell, or it is the same
pub record IsTableAfter (old new : BoundsState) (fell : Bool) : Type 0 where
  pub falls : fell ≡ true → bounds_weight new < bounds_weight old
  pub same : fell ≡ false → new ≡ old

-- a table that is settled at each class is one of bounds
abbrev pub SettledBoundsAreBounds : Type 0
SettledBoundsAreBounds =
    (b : BoundsState) (pats : List Pattern) (g : Graph) (marks : List (Option Mark)) → IsGraph g → BoundsFit b pats g
    → ((c : ℕ) → c < length g.pairs → AreSettledAt b g marks c) → AreBounds b g marks

-- with fewer marks, and none of them changed, bounds stay bounds
abbrev pub BoundsOfFewer : Type 0
BoundsOfFewer =
    (b : BoundsState) (g : Graph) (marks fewer : List (Option Mark)) → AreBounds b g marks
    → ((c : ℕ) (k : PlainMark) → marks_in fewer c ≡ Some k
    → (m : PlainMark) × (marks_in marks c ≡ Some m) × (m.cost ≡ k.cost)) → AreBounds b g fewer
