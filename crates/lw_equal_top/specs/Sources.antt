-- What the files of a comparison say.
use Rattle.std.specs.Prelude.{◌≡◌, ℕ, Bool, true, false, ◌&&◌, List, [], take, Option, Some, None, Ok, Err, codes}
use Rattle.std.specs.List.{AllZip, list_any}
use Rattle.std.specs.Str.{bytes_eq}
use Rattle.lw_words.specs.Lines.{LogicalLine}
use Rattle.lw_words.specs.Words.{first_word}
use Rattle.lw_genlib.specs.Cells.{CellParts}
use Rattle.lw_pool.specs.declared.latch.Frame.{Frame}
use Rattle.lw_net.specs.Networks as net
use Rattle.lw_netlist.specs.Netlists as netlist
use Rattle.lw_blif.specs.declared.parsed.Parsed.{Parsed}
use Rattle.lw_mapped.specs.declared.closing.Mapped.{Mapped}
use Rattle.lw_files.specs.Steps.{Files, gives, followed_by}
use Rattle.lw_files.specs.Sources.{FileStep, lines_in, text_of, HasCells, HasModel, HasMapped, ReadsLibrary}
use Rattle.lw_equal.specs.declared.side.Logic.{Logic}
use Rattle.lw_equal.specs.declared.side.Logic.TheVariants.{Rows, Cells}
use Rattle.lw_equal.specs.declared.side.Side.{Side}
use Rattle.lw_equal.specs.Sides.{IsSide}
use Rattle.lw_equal_top.specs.declared.source.Source.{Source}
use Rattle.lw_equal_top.specs.declared.source.Source.TheVariants.{Network, Netlist}

-- Texts.

-- the line is one of a gate
abbrev pub is_gate : LogicalLine → Bool
is_gate line = bytes_eq (first_word line.words) (codes ".gate")

-- the text has a line of a gate
abbrev pub has_gates : List ℕ → Bool
has_gates bytes = list_any is_gate (lines_in bytes)

-- the network of a text, or its fault
abbrev pub HasNetwork : List ℕ → FileStep Source
HasNetwork bytes files (Ok (Network model)) = HasModel bytes files (Ok model)
HasNetwork bytes files (Ok (Netlist mapped)) = ⊥
HasNetwork bytes files (Err fault) = HasModel bytes files (Err fault)

-- the netlist of a text by these cells, or its fault
abbrev pub HasNetlist : List CellParts → List ℕ → FileStep Source
HasNetlist cells bytes files (Ok (Network model)) = ⊥
HasNetlist cells bytes files (Ok (Netlist mapped)) = HasMapped cells bytes files (Ok mapped)
HasNetlist cells bytes files (Err fault) = HasMapped cells bytes files (Err fault)

abbrev pub HasEither : Bool → List CellParts → List ℕ → FileStep Source
HasEither true cells bytes = HasNetlist cells bytes
HasEither false cells bytes = HasNetwork bytes

-- where there is a library, a text with a line of a gate is a netlist of its cells; any other text is a network
abbrev pub HasSource : Bool → List CellParts → List ℕ → FileStep Source
HasSource known cells bytes = HasEither (known && has_gates bytes) cells bytes

-- Files.

-- the cells of the library, or those of an empty text where there is no library
abbrev pub ReadsCells : Option (List ℕ) → FileStep (List CellParts)
ReadsCells None files result = HasCells [] files result
ReadsCells (Some name) files result = ReadsLibrary name files result

abbrev pub ReadsSource : Bool → List CellParts → List ℕ → FileStep Source
ReadsSource known cells name = followed_by (gives (text_of name)) (HasSource known cells)

-- the files with these names say these, one each, in order
abbrev pub AreRead : Bool → List CellParts → List (List ℕ) → Files → List Source → Type 0
AreRead known cells names files sources =
    AllZip (λ name source. ReadsSource known cells name files (Ok source)) names sources

-- Sides.

-- the names of the inputs, the latches' outputs behind the circuit's own
abbrev pub input_names : Source → List (List ℕ)
input_names (Network model) = net.input_names model.network
input_names (Netlist mapped) = take mapped.netlist.inputs mapped.netlist.names

abbrev pub frame_of : Source → Frame
frame_of (Network model) = model.frame
frame_of (Netlist mapped) = mapped.frame

-- the side computes what the source says
abbrev pub IsLogicOf : List CellParts → Source → Logic → Type 0
IsLogicOf cells (Network model) (Rows n) = n.now ≡ model.network
IsLogicOf cells (Netlist mapped) (Cells n library) = (n.now ≡ mapped.netlist) × (library.now ≡ cells)
IsLogicOf cells source logic = ⊥

-- The source as a side of a comparison.
pub record IsSideOf (cells : List CellParts) (source : Source) (side : Side) : Type 0 where
  pub logic : IsLogicOf cells source side.logic
  pub frame : side.frame.now ≡ frame_of source

-- what was read can be compared
abbrev pub IsSource : List CellParts → Source → Type 0
IsSource cells source = (side : Side) → IsSideOf cells source side → IsSide side

-- the sources as sides, one each, in order
abbrev pub AreSides : List CellParts → List Source → List Side → Type 0
AreSides cells sources sides = AllZip (IsSideOf cells) sources sides
