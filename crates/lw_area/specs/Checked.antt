-- A check of a netlist that was written with its certificate.
use Rattle.std.specs.Prelude.{◌≡◌, ◌≤◌, ℕ, true, false, List, [], length, Some, Ok}
use Rattle.lw_words.specs.Limits.{most_bytes}
use Rattle.lw_genlib.specs.Cells.{CellParts}
use Rattle.lw_files.specs.Sources.{ReadsLibrary}
use Rattle.lw_files.specs.Steps.{Files}
use Rattle.lw_top.specs.Words.{checking, command_of}
use Rattle.lw_answers.specs.Checked.{AreApart}
use Rattle.lw_area.specs.Promises.{AsksFor}
use Rattle.lw_area.specs.Words.{Task}

-- The words `words` ask for a netlist with its certificate, of one network and without links, and `checks` ask `lwmap`
-- for a check of the text, over other files, by the same options and by files that hold the same library and the same
-- network. The text is not too long to be read, and no cell of the library has an output with the name of one of its
-- pins.
pub record IsCheckOf (words : List (List ℕ)) (task : Task) (files : Files) (text : List ℕ) (checks : List (List ℕ))
    (others : Files) : Type 0 where
  pub asks : AsksFor words task
  pub certified : task.settings.certified ≡ true
  pub alone : task.more ≡ []
  pub unlinked : task.settings.linked ≡ false
  pub library : List ℕ
  pub network : List ℕ
  pub mapped : List ℕ
  pub form : command_of checks ≡ Some (checking task.settings.options library network mapped)
  pub same_library : others library ≡ files task.library
  pub same_network : others network ≡ files task.network
  pub written : others mapped ≡ Some text
  pub few : length text ≤ most_bytes
  pub apart : (cells : List CellParts) → ReadsLibrary task.library files (Ok cells) → AreApart cells
