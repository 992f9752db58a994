-- The numbers of sides at classes.
use Rattle.std.specs.Prelude.{ℕ, ◌+◌, ◌-◌, ◌≡◌, ◌≤◌, ◌⊎◌, ◌%◌, ◌==◌, if◌then◌else◌, List, [], length, min, max, Option}
use Rattle.std.specs.Prelude.{Some, None, slice_index, slice_index_or}
use Rattle.lw_laws.specs.Flip.{flip}
use Rattle.lw_cost.specs.declared.mark.Mark.{Mark}
use Rattle.lw_bounds.specs.declared.parts.Kind.{Kind}
use Rattle.lw_bounds.specs.declared.parts.Kind.TheVariants.{Any, Leaf, One, Joined}
use Rattle.lw_bounds.specs.declared.parts.Side.{Side}
use Rattle.lw_bounds.specs.declared.parts.Part.{Part}
use Rattle.lw_bounds.specs.declared.numbers.Numbers.{Numbers}

-- how many numbers a table has at most
abbrev pub most_numbers : ℕ
most_numbers = 67108864

-- the number that says that a side stands nowhere: the greatest one
abbrev pub never : ℕ
never = 18446744073709551615

-- where the row of a class would start that has none
abbrev pub no_row : ℕ
no_row = 4294967295

-- what numbers are read from: the class of true, the marks, and the numbers of parts in rows of this width, by where
-- the row of each class starts
pub record Reading : Type 0 where
  pub one : ℕ
  pub marks : List (Option Mark)
  pub width : ℕ
  pub starts : List ℕ
  pub numbers : List ℕ

abbrev pub reading : Numbers → Reading
reading at =
    record { one = at.one.0; marks = at.marks.now; width = at.width; starts = at.starts.now; numbers = at.numbers.now }

-- no marks and no rows
abbrev pub no_reading : Reading
no_reading = record { one = 0; marks = []; width = 0; starts = []; numbers = [] }

-- where the row of a class starts
abbrev pub start_of : List ℕ → ℕ → ℕ
start_of starts c = slice_index_or starts c no_row

-- each class has no row or a whole one, in so many numbers
abbrev pub AreStarts : ℕ → List ℕ → ℕ → Type 0
AreStarts width starts size =
    (c : ℕ) → (start_of starts c ≡ no_row) ⊎ (start_of starts c + width ≤ size)

-- whole rows, and classes in pairs
pub record IsReading (r : Reading) : Type 0 where
  pub rows : AreStarts r.width r.starts (length r.numbers)
  pub even : length r.marks % 2 ≡ 0

-- a number with its shift: what is never stays so, and nothing else becomes it
abbrev pub shifted : ℕ → ℕ → ℕ
shifted n shift = max n (min (n + shift) (never - 1))

-- a pin at a class with this mark
abbrev pub mark_number : Option Mark → ℕ
mark_number None = never
mark_number (Some m) = min m.cost (never - 1)

abbrev pub number_from : List ℕ → ℕ → ℕ → ℕ
number_from numbers n start = if start == no_row then never else slice_index numbers (start + n)

-- the number of a part at a class
abbrev pub part_number : Reading → ℕ → ℕ → ℕ
part_number r n c = number_from r.numbers n (start_of r.starts c)

abbrev pub kind_number : Reading → Kind → ℕ → ℕ
kind_number r Any c = 0
kind_number r (Leaf shift) c = shifted (mark_number (slice_index_or r.marks c None)) shift
kind_number r One c = if c == r.one then 0 else never
kind_number r (Joined n shift) c = shifted (part_number r n c) shift

-- the class itself, and its complement where an inverter stands before the side
abbrev pub class_below : Side → ℕ → ℕ
class_below s c = if s.flipped then flip c else c

-- the number of a side at a class: that of what it is, at the class below
abbrev pub side_number : Reading → Side → ℕ → ℕ
side_number r s c = kind_number r s.kind (class_below s c)

-- the number of a part by a pair, in the order in which it is the lesser
abbrev pub pair_number : Reading → Part → ℕ → ℕ → ℕ
pair_number r p x y =
    min (max (side_number r p.left x) (side_number r p.right y))
    (max (side_number r p.left y) (side_number r p.right x))
