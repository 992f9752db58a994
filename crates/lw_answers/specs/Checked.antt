-- A check of a mapping that was written with its certificate.
use Rattle.std.specs.Prelude.{◌≡◌, ◌≤◌, ℕ, true, List, length, Some, Ok, All, Contains}
use Rattle.lw_genlib.specs.Cells.{CellParts}
use Rattle.lw_map.specs.Options.{Options}
use Rattle.lw_files.specs.Steps.{Files}
use Rattle.lw_top.specs.Words.{mapping, checking, command_of}
use Rattle.lw_top.specs.Answers.{ReadsLibrary}
use Rattle.lw_words.specs.Limits.{most_bytes}

-- no cell's output has the name of one of its pins
abbrev pub AreApart : List CellParts → Type 0
AreApart cells = All (λ (cell : CellParts). Contains cell.pins cell.output → ⊥) cells

-- The words `words` ask for a mapping with its certificate, and `checks` for a check of the text, over other files, by
-- the same options and by files that hold the same library and the same network. The text is not too long to be read,
-- and no cell of the library has an output with the name of one of its pins.
pub record IsCheckOf (words : List (List ℕ)) (files : Files) (text : List ℕ) (checks : List (List ℕ))
    (others : Files) : Type 0 where
  pub options : Options
  pub library : List ℕ
  pub network : List ℕ
  pub mapping_form : command_of words ≡ Some (mapping options true library network)
  pub other_library : List ℕ
  pub other_network : List ℕ
  pub mapped : List ℕ
  pub checking_form : command_of checks ≡ Some (checking options other_library other_network mapped)
  pub same_library : others other_library ≡ files library
  pub same_network : others other_network ≡ files network
  pub written : others mapped ≡ Some text
  pub few : length text ≤ most_bytes
  pub apart : (cells : List CellParts) → ReadsLibrary library files (Ok cells) → AreApart cells
