-- What may stand at the classes of a graph: the inputs, and the matches of the patterns.
use Rattle.std.specs.Prelude.{ℕ, ◌≡◌, ◌<◌, List, length, Some, slice_get, slice_index_or, zip}
use Rattle.std.specs.List.Sorted.{IsPermutation}
use Rattle.lw_laws.specs.Matches.{IsMatchAt}
use Rattle.lw_laws.specs.Covers.{delays_of, HasPins}
use Rattle.lw_genlib.specs.Cells.{CellParts}
use Rattle.lw_genlib.specs.Tables.{delays_of_cells}
use Rattle.lw_choices.specs.Areas.{area_cost}
use Rattle.lw_choices.specs.Tasks.{Task}
use Rattle.std.specs.List.{AllByRecursion}

-- an input, or a cell with the classes of its pins
pub data Part : Type 0 where
  input : ℕ → Part
  gate : ℕ → List ℕ → Part

pub record Choice : Type 0 where
  pub class : ℕ
  pub part : Part

-- the input has this class, or the cell has a match there
abbrev pub MayStand : Task → ℕ → Part → Type 0
MayStand s c (input i) = slice_get s.graph.leaves i ≡ Some c
MayStand s c (gate cell ps) = IsMatchAt s.graph (area_cost s.cells).pin_counts s.patterns c cell ps

-- the pins of a cell, each with its delay and its class
abbrev pub uses_of : List CellParts → ℕ → List ℕ → List (ℕ × ℕ)
uses_of cells cell ps = zip (delays_of (delays_of_cells cells) cell) ps

-- the same input, or the same cell with as many pins of each class and delay
abbrev pub AreAlike : List CellParts → Part → Part → Type 0
AreAlike cells (input i) (input j) = i ≡ j
AreAlike cells (gate cell ps) (gate other qs) =
    (cell ≡ other) × IsPermutation (uses_of cells cell ps) (uses_of cells cell qs)
AreAlike cells (input i) (gate other qs) = ⊥
AreAlike cells (gate cell ps) (input j) = ⊥

-- one that is alike is listed for the class
pub record IsListedLike (cells : List CellParts) (choices : List Choice) (c : ℕ) (part : Part) : Type 0 where
  pub number : ℕ
  pub other : Part
  pub at : slice_get choices number ≡ Some (record { class = c; part = other })
  pub alike : AreAlike cells part other

-- what may stand at the classes of the graph and nothing else; of those that are alike not each one need be listed
pub record AreListedChoices (s : Task) (choices : List Choice) : Type 0 where
  pub each : (n : ℕ) (x : Choice) → slice_get choices n ≡ Some x → MayStand s x.class x.part
  pub within : (n : ℕ) (x : Choice) → slice_get choices n ≡ Some x → x.class < length s.graph.pairs
  pub all : (c : ℕ) (part : Part) → c < length s.graph.pairs → MayStand s c part
      → IsListedLike s.cells choices c part

-- the pin with this number has the class
abbrev pub HasPinAt : Part → ℕ → ℕ → Type 0
HasPinAt (input i) k p = ⊥
HasPinAt (gate cell ps) k p = slice_get ps k ≡ Some p

-- how many pins it has
abbrev pub pin_count : Part → ℕ
pin_count (input i) = 0
pin_count (gate cell ps) = length ps

-- the delay of a pin, by the cells of a library
abbrev pub pin_delay : List CellParts → Part → ℕ → ℕ
pin_delay cells (input i) k = 0
pin_delay cells (gate cell ps) k = slice_index_or (delays_of (delays_of_cells cells) cell) k 0

abbrev pub delay_at : Task → Part → ℕ → ℕ
delay_at s part k = pin_delay s.cells part k

-- the pins are of so many classes
abbrev pub IsWithin : ℕ → Part → Type 0
IsWithin classes (input i) = Unit {0}
IsWithin classes (gate cell ps) = AllByRecursion (λ p. p < classes) ps

-- the cell is one of the library, and has this many pins
abbrev pub IsOfLibrary : List CellParts → Part → Type 0
IsOfLibrary cells (input i) = Unit {0}
IsOfLibrary cells (gate cell ps) = HasPins (area_cost cells).pin_counts cell (length ps)

-- so it is of both
pub record IsPartFor (cells : List CellParts) (classes : ℕ) (part : Part) : Type 0 where
  pub within : IsWithin classes part
  pub of_library : IsOfLibrary cells part
