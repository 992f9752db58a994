-- Cuts: a tree over pins at some classes that stands at a class, and its values as bits.
use Rattle.std.specs.Prelude.{ℕ, ◌+◌, ◌^◌, ◌%◌, ◌≤◌, ◌≡◌, ◌==◌, Bool, true, false, not, List, [], ◌∷◌, length}
use Rattle.std.specs.Prelude.{if◌then◌else◌, slice_index_or}
use Rattle.std.specs.Int.{bit_at}
use Rattle.std.specs.List.{range_with_len}
use Rattle.lw_pool.specs.declared.id.ClassId.{ClassId}
use Rattle.lw_laws.specs.Trees.{Tree, tree_value}
use Rattle.lw_laws.specs.Graphs.{Graph, Stands}
use Rattle.lw_lut.specs.Covers.{leaves_of}
use Rattle.lw_pool.specs.Numbers.{numbers}

-- the number that the values of some classes spell, the first as the highest bit
abbrev pub spelled : (ℕ → Bool) → List ℕ → ℕ
spelled v [] = 0
spelled v (c ∷ cs) = (if v c then 2 ^ length cs else 0) + spelled v cs

-- whether bit j is set
abbrev pub is_set : ℕ → ℕ → Bool
is_set bits j = bit_at bits j == 1

-- the value of a pin, by the values of the classes at which the pins are
abbrev pub pin_value : (ℕ → Bool) → List ℕ → ℕ → Bool
pin_value v pins k = v (slice_index_or pins k 0)

-- the other value, or the same
abbrev pub turned : Bool → Bool → Bool
turned true b = not b
turned false b = b

abbrev pub is_odd : ℕ → Bool
is_odd n = n % 2 == 1

-- The classes of the pins, and the bits.
pub record PlainCut : Type 0 where
  pub pins : List ClassId
  pub bits : ℕ

-- no pin, and this value
pub record IsConstantCut (value : Bool) (cut : PlainCut) : Type 0 where
  pub pins : cut.pins ≡ []
  pub bits : is_set cut.bits 0 ≡ value

-- one pin at the class, and the value of the first class of its pair
pub record IsPinCut (class : ClassId) (cut : PlainCut) : Type 0 where
  pub pins : cut.pins ≡ class ∷ []
  pub low : is_set cut.bits 0 ≡ is_odd class.0
  pub high : is_set cut.bits 1 ≡ not (is_odd class.0)

-- the pins of the cut, at most six
pub record ArePinsOfCut (cut : PlainCut) (classes : List ClassId) : Type 0 where
  pub pins : classes ≡ cut.pins
  pub few : length classes ≤ 6

-- A tree over these pins, from left to right, stands at the class, and the bits, or their complements, are its values.
pub record IsCutAt (g : Graph) (c : ℕ) (complemented : Bool) (cut : PlainCut) : Type 0 where
  pub tree : Tree
  pub pins : leaves_of tree ≡ range_with_len 0 (length cut.pins)
  pub stands : Stands g (numbers cut.pins) tree c
  pub values : (v : ℕ → Bool) → turned complemented (is_set cut.bits (spelled v (numbers cut.pins))) ≡ tree_value
      (pin_value v (numbers cut.pins)) tree
