-- What a text that was written is of, what an output is that has no cover, and what a yes says.
use Rattle.std.specs.Prelude.{◌≡◌, ◌≤◌, ℕ, Bool, false, List, [], ◌∷◌, length, Option, Some, None, Ok, is_some}
use Rattle.std.specs.Prelude.{if◌then◌else◌, codes, All}
use Rattle.std.specs.Str.{bytes_eq}
use Rattle.lw_laws.specs.Headline.{IsMapping}
use Rattle.lw_net.specs.Networks.{plain as plain_network, input_names, output_names, ports_of}
use Rattle.lw_frame.specs.Frames.{Fits}
use Rattle.lw_frame.specs.Latches.{IsReadableLatch}
use Rattle.lw_frame.specs.Starts.{StartsFit}
use Rattle.lw_blif.specs.declared.parsed.Parsed.{Parsed}
use Rattle.lw_words.specs.Limits.{most_bytes}
use Rattle.lw_words.specs.Lines.{logical_lines}
use Rattle.lw_blif.specs.Drafts.{IsModelOf}
use Rattle.lw_blif.specs.LineFaults.{lines_read}
use Rattle.lw_genlib.specs.Cells.{CellParts}
use Rattle.lw_genlib.specs.Libraries.{library_of}
use Rattle.lw_genlib.specs.Tables.{timing_of, truth_of_cells, library_patterns}
use Rattle.lw_netlist.specs.Netlists.{NetlistParts, plain as plain_netlist, mapped_ports}
use Rattle.lw_mapped.specs.declared.certificate.Certificate.{Certificate}
use Rattle.lw_mapped.specs.declared.closing.Mapped.{Mapped}
use Rattle.lw_mapped.specs.Readable.{IsNamed}
use Rattle.lw_mapped.specs.Texts.{mapped_text}
use Rattle.lw_map.specs.Options.{Options}
use Rattle.lw_map.specs.Mapped.{LacksCover}
use Rattle.lw_files.specs.Steps.{Files}
use Rattle.lw_top.specs.Words.{Command, mapping, checking, tabling, begun_by, mapping_begun, command_of}
use Rattle.lw_top.specs.Answers.{ReadsLibrary, ReadsModel, ReadsMapped}

-- `map [-w K] [-i] [-c] LIB IN`
abbrev pub map_words : List (List ℕ) → Option Command
map_words [] = None
map_words (name ∷ words) = if bytes_eq name (codes "map") then mapping_begun (begun_by words) else None

-- the words ask for the mapping of a network to a library
pub record AsksForMapping (words : List (List ℕ)) : Type 0 where
  pub options : Options
  pub certified : Bool
  pub library : List ℕ
  pub network : List ℕ
  pub form : map_words words ≡ Some (mapping options certified library network)

-- the words ask for the check of a mapped netlist
pub record AsksForCheck (words : List (List ℕ)) : Type 0 where
  pub options : Options
  pub library : List ℕ
  pub network : List ℕ
  pub mapped : List ℕ
  pub form : command_of words ≡ Some (checking options library network mapped)

-- the words ask for lookup tables
pub record AsksForTables (words : List (List ℕ)) : Type 0 where
  pub leaves : ℕ
  pub options : Options
  pub network : List ℕ
  pub form : command_of words ≡ Some (tabling leaves options network)

-- the words ask for the mapping of a network to a library, whose texts are these cells and this model
pub record AreRead (words : List (List ℕ)) (files : Files) (options : Options) (certified : Bool)
    (cells : List CellParts) (model : Parsed) : Type 0 where
  pub library_word : List ℕ
  pub network_word : List ℕ
  pub form : command_of words ≡ Some (mapping options certified library_word network_word)
  pub library : ReadsLibrary library_word files (Ok cells)
  pub network : ReadsModel network_word files (Ok model)

-- The file is there, with at most 67,108,864 bytes, and lists these cells. In its lines each `#` begins a comment.
abbrev pub SaysLibrary : List ℕ → Files → List CellParts → Type 0
SaysLibrary name files cells = (bytes : List ℕ) × (files name ≡ Some bytes) × (length bytes ≤ most_bytes)
    × (library_of (logical_lines false bytes) ≡ Ok cells)

-- The file is there, with at most 67,108,864 bytes, and its lines, as far as they are read, say this model.
abbrev pub SaysModel : List ℕ → Files → Parsed → Type 0
SaysModel name files model = (bytes : List ℕ) × (files name ≡ Some bytes) × (length bytes ≤ most_bytes)
    × IsModelOf (lines_read (logical_lines false bytes)) model

-- The text is the mapped text of a netlist, with the network's model name, the latches of the model and the starts of
-- its inputs, and with a certificate where one is asked for. The inputs of the network are the model's and then the
-- outputs of the latches; its outputs are the roots: those of the model and then what the latches read. The netlist is
-- of the library's cells, computes each root for all values of the inputs, and brings it, counted from the starts, at
-- the least time of any cover of any tree that the rules derive for it. The model, the nets and the outputs have names
-- of the format, which differ, the gates stand by depth, and the words of each latch are names.
pub record IsMappingText (words : List (List ℕ)) (files : Files) (text : List ℕ) : Type 0 where
  pub asks : AsksForMapping words
  pub cells : List CellParts
  pub model : Parsed
  pub netlist : NetlistParts
  pub certificate : Option Certificate
  pub library : SaysLibrary asks.library files cells
  pub network : SaysModel asks.network files model
  pub written : text ≡ mapped_text cells netlist model.frame model.starts certificate
  pub asked : is_some certificate ≡ asks.certified
  pub model_name : netlist.model ≡ model.network.model
  pub frame : Fits model.frame (input_names model.network) (output_names model.network)
  pub starts : StartsFit model.frame model.network.inputs model.starts
  pub mapping_is : IsMapping asks.options.mode asks.options.width (plain_network model.network) (ports_of model.network)
      (library_patterns cells) (timing_of cells model.starts) (truth_of_cells cells) (plain_netlist netlist)
      (mapped_ports netlist)
  pub named : IsNamed netlist
  pub latches : All IsReadableLatch model.frame.latches

-- The first root of the network that no cover of any tree that the rules derive for it has.
pub record LacksOutput (words : List (List ℕ)) (files : Files) (name : List ℕ) : Type 0 where
  pub asks : AsksForMapping words
  pub cells : List CellParts
  pub model : Parsed
  pub library : SaysLibrary asks.library files cells
  pub network : SaysModel asks.network files model
  pub lacks : LacksCover asks.options cells model.network model.starts name

-- The words ask for a check of a mapped netlist, whoever wrote it, and it is a mapping of the network: it has its
-- frame, its inputs and its roots, computes each root for all values of the inputs, and brings it, counted from the
-- network's starts, at the least time of any cover of any tree that the rules derive for it.
pub record IsCheckedMapping (words : List (List ℕ)) (files : Files) : Type 0 where
  pub options : Options
  pub cells : List CellParts
  pub model : Parsed
  pub netlist : Mapped
  pub library_word : List ℕ
  pub network_word : List ℕ
  pub mapped_word : List ℕ
  pub form : command_of words ≡ Some (checking options library_word network_word mapped_word)
  pub library : ReadsLibrary library_word files (Ok cells)
  pub network : ReadsModel network_word files (Ok model)
  pub mapped : ReadsMapped mapped_word cells files (Ok netlist)
  pub frame : netlist.frame ≡ model.frame
  pub mapping_is : IsMapping options.mode options.width (plain_network model.network) (ports_of model.network)
      (library_patterns cells) (timing_of cells model.starts) (truth_of_cells cells) (plain_netlist netlist.netlist)
      (mapped_ports netlist.netlist)
