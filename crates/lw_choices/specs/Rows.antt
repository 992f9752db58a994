-- What may stand at classes, as the code lists it.
use Rattle.std.specs.Prelude.{ℕ, ◌+◌, ◌<◌, ◌≤◌, ◌≡◌, ◌⊎◌, All, List, [], ◌∷◌, ◌++◌, length, Some, slice_get}
use Rattle.lw_fixed.specs.declared.micro.Micro.{Micro}
use Rattle.lw_genlib.specs.Cells.{CellParts}
use Rattle.lw_laws.specs.Covers.{Pattern}
use Rattle.lw_laws.specs.Graphs.{Graph}
use Rattle.lw_cost.specs.Least.{AreOfCells}
use Rattle.lw_settle.specs.Stores.{Stored, IsStoreOf}
use Rattle.lw_choices.specs.Areas.{area_cost}
use Rattle.lw_choices.specs.declared.listed.Listed.{Listed}
use Rattle.lw_choices.specs.Choices.{Part, Choice, AreListedChoices, IsListedLike, MayStand, IsPartFor}
use Rattle.lw_choices.specs.Choices.Part.{input, gate}
use Rattle.lw_choices.specs.Chains.{number_count}
use Rattle.lw_choices.specs.PinUses.{bucket_count}
use Rattle.lw_choices.specs.Tasks.{Task, task}

-- the choice and its pins are of so many classes, and its cell is of the library
pub record IsRowFor (cells : List CellParts) (classes : ℕ) (row : Choice) : Type 0 where
  pub part : IsPartFor cells classes row.part
  pub class_low : row.class < classes

-- the pins of each choice are of so many classes, its cell is of the library, and they can be numbered
pub record ArePartsFor (cells : List CellParts) (classes : ℕ) (rows : List Choice) : Type 0 where
  pub few : length rows < number_count
  pub parts : All (λ (r : Choice). IsPartFor cells classes r.part) rows

-- so it is of each with its class, and they can be numbered
pub record AreRowsFor (cells : List CellParts) (classes : ℕ) (rows : List Choice) : Type 0 where
  pub few : length rows < number_count
  pub each : All (IsRowFor cells classes) rows

abbrev pub IsAmong : List Choice → ℕ → Part → Type 0
IsAmong choices c part = (n : ℕ) × (slice_get choices n ≡ Some (record { class = c; part = part }))

-- what may stand: the inputs from a number on, and for each match at the classes from one on one that is alike
pub record IsListing (s : Task) (first class : ℕ) (choices : List Choice) : Type 0 where
  pub each : (n : ℕ) (x : Choice) → slice_get choices n ≡ Some x → MayStand s x.class x.part
  pub within : (n : ℕ) (x : Choice) → slice_get choices n ≡ Some x → x.class < length s.graph.pairs
  pub inputs_are : (i c : ℕ) → first ≤ i → slice_get s.graph.leaves i ≡ Some c → IsAmong choices c (input i)
  pub gates_are : (c cell : ℕ) (ps : List ℕ) → class ≤ c → c < length s.graph.pairs → MayStand s c (gate cell ps)
      → IsListedLike s.cells choices c (gate cell ps)

-- a match is listed, or one that is alike was
pub record IsGateAdded (cells : List CellParts) (old new : List Choice) (x : Choice) : Type 0 where
  pub only : (new ≡ old) ⊎ (new ≡ old ++ x ∷ [])
  pub like : IsListedLike cells new x.class x.part

-- a list under way, by the cells of a library, with the links of its hashes
pub record IsUnderWay (cells : List CellParts) (to : Listed) : Type 0 where
  pub count : to.chains.count ≡ bucket_count
  pub lib : to.lib.now ≡ cells

-- so it is where a match was added to such a list
pub record IsListedMore (old new : Listed) (x : Choice) : Type 0 where
  pub way : (cells : List CellParts) → IsUnderWay cells old → IsUnderWay cells new
  pub added : (cells : List CellParts) → IsUnderWay cells old
      → IsGateAdded cells old.rows new.rows x

-- nothing is listed yet
pub record IsNoneListed (cells : List CellParts) (to : Listed) : Type 0 where
  pub way : IsUnderWay cells to
  pub none : to.rows ≡ []

-- the matches from one class on are listed, by cells that the patterns are of
abbrev pub AreListedFrom : Graph → List Pattern → List CellParts → ℕ → List Choice → Type 0
AreListedFrom g pats cells class rows =
    (starts : List Micro) → AreOfCells (area_cost cells).pin_counts pats
    → IsListing (task g pats cells starts) (length g.leaves) class rows

-- those at one class more are listed
pub record IsClassListed (g : Graph) (pats : List Pattern) (class : ℕ) (old new : Listed) : Type 0 where
  pub way : (cells : List CellParts) → IsUnderWay cells old → IsUnderWay cells new
  pub listed : (cells : List CellParts) → IsUnderWay cells old
      → AreListedFrom g pats cells (class + 1) old.rows → AreListedFrom g pats cells class new.rows

-- those at all classes are listed
abbrev pub AreMatchesListed : Graph → List Pattern → List CellParts → List Choice → Type 0
AreMatchesListed g pats cells rows = AreListedFrom g pats cells 0 rows

-- so are those of a store, whatever graph and patterns it is of
abbrev pub AreStoredListed : List (List Stored) → List CellParts → List Choice → Type 0
AreStoredListed lists cells rows =
    (g : Graph) (pats : List Pattern) → IsStoreOf g pats lists → AreMatchesListed g pats cells rows

-- the inputs are listed too
abbrev pub AreInputsListed : Graph → List Choice → List Choice → Type 0
AreInputsListed g old new =
    (pats : List Pattern) (cells : List CellParts) (starts : List Micro)
    → IsListing (task g pats cells starts) (length g.leaves) 0 old
    → IsListing (task g pats cells starts) 0 0 new

-- what may stand at the classes, by the cells of a library that the patterns are of, and they can be numbered
pub record AreAllChoices (g : Graph) (pats : List Pattern) (cells : List CellParts)
    (rows : List Choice) : Type 0 where
  pub few : length rows < number_count
  pub choices : (starts : List Micro) → AreOfCells (area_cost cells).pin_counts pats
      → AreListedChoices (task g pats cells starts) rows
