-- Tables: fan-ins at classes, and bits.
use Rattle.std.specs.Prelude.{ℕ, ◌^◌, ◌<◌, ◌≤◌, ◌≡◌, ◌==◌, ◌↔◌, ◌⊎◌, ◌++◌, Bool, false, List, [], ◌∷◌, length, Contains}
use Rattle.std.specs.Prelude.{Some, if◌then◌else◌, slice_get}
use Rattle.lw_pool.specs.declared.id.ClassId.{ClassId}
use Rattle.lw_laws.specs.Trees.{Tree, tree_value}
use Rattle.lw_laws.specs.Graphs.{Graph, Stands}
use Rattle.lw_lut.specs.declared.table.Table.{Table}
use Rattle.lw_lut.specs.Covers.{HasPinsOnce}
use Rattle.lw_lut.specs.Cuts.{PlainCut, spelled, is_set, pin_value, turned, is_odd}
use Rattle.lw_lut.specs.Packed.{packed}
use Rattle.lw_pool.specs.Numbers.{numbers}

-- The table stands for a table of a cover at the class: some tree over at most so many pins at the fan-ins' classes,
-- each pin in it exactly once, stands there, and for all values of the classes the bit whose number the fan-ins' values
-- spell, the first as the highest bit, is the tree's value.
pub record IsTableAt (g : Graph) (most c : ℕ) (fanins : List ℕ) (bits : ℕ) : Type 0 where
  pub pins : List ℕ
  pub tree : Tree
  pub few : length pins ≤ most
  pub once : HasPinsOnce (length pins) tree
  pub stands : Stands g pins tree c
  pub at : (q : ℕ) → Contains pins q ↔ Contains fanins q
  pub values : (v : ℕ → Bool) → is_set bits (spelled v fanins) ≡ tree_value (pin_value v pins) tree

-- different, and in rising order
abbrev pub AreRisingClasses : List ClassId → Type 0
AreRisingClasses classes =
    (i j : ℕ) (x y : ClassId) → slice_get classes i ≡ Some x → slice_get classes j ≡ Some y → i < j → x.0 < y.0

-- the classes of a list, each once and in rising order
pub record AreRisingOf (classes rising : List ClassId) : Type 0 where
  pub are_rising : AreRisingClasses rising
  pub same : (c : ClassId) → Contains rising c ↔ Contains classes c
  pub few : length rising ≤ length classes

-- the class is at the end of the list, unless it was there
abbrev pub IsAdded : List ClassId → ClassId → List ClassId → Type 0
IsAdded old class new =
    (Contains old class × (new ≡ old)) ⊎ ((Contains old class → ⊥) × (new ≡ old ++ class ∷ []))

-- the value that a number gives to a class, where classes spell it
abbrev pub given : List ℕ → ℕ → ℕ → Bool
given [] place c = false
given (f ∷ fs) place c = if f == c then is_set place (length fs) else given fs place c

-- the number that pins spell where fan-ins spell another
pub record IsSpelledNumber (pins fanins : List ClassId) (place number : ℕ) : Type 0 where
  pub same : number ≡ spelled (given (numbers fanins) place) (numbers pins)
  pub few : number < 64

-- the value of a cut at a class, where fan-ins spell a number
abbrev pub table_value : PlainCut → ℕ → List ℕ → ℕ → Bool
table_value cut c fanins place =
    turned (is_odd c) (is_set cut.bits (spelled (given fanins place) (numbers cut.pins)))

-- the table of a cut at a class, over the cut's pins
pub record IsTableOf (cut : PlainCut) (class : ClassId) (t : Table) : Type 0 where
  pub out_is : t.out ≡ class
  pub rising : AreRisingOf cut.pins t.fanins
  pub six : length t.fanins ≤ 6
  pub bits_are : t.bits ≡ packed (table_value cut class.0 (numbers t.fanins)) 0 (2 ^ length t.fanins)
