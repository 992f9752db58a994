-- What a text of a netlist of least area is that was written, and what an output is that has no cover.
use Rattle.std.specs.Prelude.{◌≡◌, ℕ, List, Option, Some, None, Ok, All}
use Rattle.lw_fixed.specs.declared.micro.Micro.{Micro}
use Rattle.lw_net.specs.Networks.{input_names, output_names}
use Rattle.lw_frame.specs.Frames.{Fits}
use Rattle.lw_frame.specs.Latches.{IsReadableLatch}
use Rattle.lw_frame.specs.Starts.{StartsFit}
use Rattle.lw_blif.specs.declared.parsed.Parsed.{Parsed}
use Rattle.lw_genlib.specs.Cells.{CellParts}
use Rattle.lw_netlist.specs.Netlists.{NetlistParts}
use Rattle.lw_mapped.specs.Texts.{mapped_text}
use Rattle.lw_mapped.specs.Readable.{IsNamed}
use Rattle.lw_map.specs.Options.{Options}
use Rattle.lw_map.specs.Mapped.{LacksCover}
use Rattle.lw_map.specs.Trading.{IsTradedNetlist}
use Rattle.lw_files.specs.Steps.{Files}
use Rattle.lw_top.specs.Words.{trading, command_of}
use Rattle.lw_top.specs.Answers.{ReadsLibrary, ReadsModel}

-- the words ask for a mapping of the least area by a deadline, or without one
pub record AsksForTrade (words : List (List ℕ)) : Type 0 where
  pub deadline : Option Micro
  pub options : Options
  pub library : List ℕ
  pub network : List ℕ
  pub form : command_of words ≡ Some (trading deadline options library network)

-- The text is the mapped text, without a certificate, of a netlist of the library's cells, with the latches of the
-- model and the starts of its inputs. The inputs of the network are the model's and then the outputs of the latches;
-- its outputs are the roots: those of the model and then what the latches read. The netlist computes each root for all
-- values of the inputs. Each root arrives by the deadline, or at its least time where that is later, and has the least
-- area, in which each use of a shared part counts, of all covers of all trees that the rules derive for it, of those
-- that are in time. The model, the nets and the outputs have names of the format, which differ, the gates stand by
-- depth, and the words of each latch are names.
pub record IsTrade (words : List (List ℕ)) (files : Files) (text : List ℕ) : Type 0 where
  pub asks : AsksForTrade words
  pub cells : List CellParts
  pub model : Parsed
  pub netlist : NetlistParts
  pub library : ReadsLibrary asks.library files (Ok cells)
  pub network : ReadsModel asks.network files (Ok model)
  pub written : text ≡ mapped_text cells netlist model.frame model.starts None
  pub frame : Fits model.frame (input_names model.network) (output_names model.network)
  pub starts : StartsFit model.frame model.network.inputs model.starts
  pub traded : IsTradedNetlist asks.options cells model.network model.starts asks.deadline netlist
  pub named : IsNamed netlist
  pub latches : All IsReadableLatch model.frame.latches

-- The first root of the network that no cover of any tree that the rules derive for it has.
pub record LacksTradedOutput (words : List (List ℕ)) (files : Files) (name : List ℕ) : Type 0 where
  pub asks : AsksForTrade words
  pub cells : List CellParts
  pub model : Parsed
  pub library : ReadsLibrary asks.library files (Ok cells)
  pub network : ReadsModel asks.network files (Ok model)
  pub lacks : LacksCover asks.options cells model.network model.starts name
