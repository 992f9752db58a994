-- What a table of bounds is made of.
use Rattle.std.specs.Prelude.{ℕ, zero, suc, ◌≡◌, ◌≤◌, ◌+◌, ◌*◌, List, [], ◌∷◌, length, map, slice_index_or}
use Rattle.lw_laws.specs.Graphs.{Graph, Pair}
use Rattle.lw_laws.specs.Covers.{Pattern}
use Rattle.lw_bounds.specs.declared.making.Rows.{Rows}
use Rattle.lw_bounds.specs.declared.making.Sides.{Sides}
use Rattle.lw_bounds.specs.declared.parts.Part.{Part}
use Rattle.lw_bounds.specs.Bounds.{AreApart, AreBare, AreZero}
use Rattle.lw_bounds.specs.Numbers.{AreStarts, most_numbers}
use Rattle.lw_bounds.specs.Places.{AreGrouped}
use Rattle.lw_bounds.specs.Shapes.{AllHaveShapes, AreParts, HaveRootShapes}

-- the parts of the patterns, and the sides that their nodes and roots are
pub record AreSidesOf (room : ℕ) (gaps : List (List ℕ)) (pats : List Pattern) (s : Sides) : Type 0 where
  pub parts : AreParts room s.parts.keys
  pub count : length (map (λ sides. sides.items) s.all.items) ≡ length pats
  pub shapes : AllHaveShapes s.parts.keys gaps pats (map (λ sides. sides.items) s.all.items)
  pub root_count : length s.roots.items ≡ length pats
  pub roots : HaveRootShapes s.parts.keys gaps pats s.roots.items

-- 1 for a class that has pairs
abbrev pub row_count : List Pair → ℕ
row_count [] = 0
row_count (_ ∷ _) = 1

-- how many of the first classes have pairs
abbrev pub rows_below : List (List Pair) → ℕ → ℕ
rows_below pairs zero = 0
rows_below pairs (suc n) = rows_below pairs n + row_count (slice_index_or pairs n [])

-- how many classes have pairs
abbrev pub rows_in : Graph → ℕ
rows_in g = rows_below g.pairs (length g.pairs)

-- so few parts that a number for each of them at each class with pairs is not too many
pub record AreFew (g : Graph) (parts : List Part) : Type 0 where
  pub size : length parts * rows_in g ≤ most_numbers
  pub few : length parts ≤ most_numbers

-- a row of zeros for each class that has pairs, the rules of the parts, and room for one row
pub record AreFreshRows (g : Graph) (parts : List Part) (rows : Rows) : Type 0 where
  pub starts : AreStarts (length parts) rows.starts.items (length rows.numbers.items)
  pub bare : AreBare rows.starts.items g
  pub apart : AreApart (length parts) rows.starts.items
  pub zero : AreZero rows.numbers.items
  pub grouped : AreGrouped parts rows.groups.items
  pub least : length rows.least.items ≡ length parts
