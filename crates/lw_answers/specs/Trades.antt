-- A trade of areas for time that was read.
use Rattle.std.specs.Prelude.{◌≡◌, ℕ, List, Option, Some, Ok}
use Rattle.lw_fixed.specs.declared.micro.Micro.{Micro}
use Rattle.lw_genlib.specs.Cells.{CellParts}
use Rattle.lw_blif.specs.declared.parsed.Parsed.{Parsed}
use Rattle.lw_map.specs.Options.{Options}
use Rattle.lw_files.specs.Steps.{Files}
use Rattle.lw_top.specs.Words.{trading, command_of}
use Rattle.lw_top.specs.Answers.{ReadsLibrary, ReadsModel}

-- the words ask for the least area by a deadline, or without one, and the texts of the files are these cells and this
-- model
pub record AreReadToTrade (words : List (List ℕ)) (files : Files) (deadline : Option Micro) (options : Options)
    (cells : List CellParts) (model : Parsed) : Type 0 where
  pub library_word : List ℕ
  pub network_word : List ℕ
  pub form : command_of words ≡ Some (trading deadline options library_word network_word)
  pub library : ReadsLibrary library_word files (Ok cells)
  pub network : ReadsModel network_word files (Ok model)
