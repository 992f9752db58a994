-- A mapped netlist that was written in Verilog, and read back.
use Rattle.std.specs.Prelude.{◌≡◌, ◌≤◌, ℕ, List, length, Some, Ok}
use Rattle.lw_genlib.specs.Cells.{CellParts}
use Rattle.lw_mapped.specs.declared.closing.Mapped.{Mapped}
use Rattle.lw_files.specs.Steps.{Files}
use Rattle.lw_top.specs.Words.{to_verilog, from_verilog, command_of}
use Rattle.lw_top.specs.Answers.{ReadsLibrary, ReadsMapped, IsAnswer}
use Rattle.lw_top.specs.Verilogs.{plain_text}
use Rattle.lw_words.specs.Limits.{most_bytes}

-- The words `words` ask for a mapped netlist in Verilog, and `backs` for the mapped text of the text in Verilog, over
-- other files that hold the same library. The text is not too long to be read.
pub record IsBackOf (words : List (List ℕ)) (files : Files) (text : List ℕ) (backs : List (List ℕ))
    (others : Files) : Type 0 where
  pub library : List ℕ
  pub mapped : List ℕ
  pub there : command_of words ≡ Some (to_verilog library mapped)
  pub other_library : List ℕ
  pub verilog : List ℕ
  pub back : command_of backs ≡ Some (from_verilog other_library verilog)
  pub same_library : others other_library ≡ files library
  pub written : others verilog ≡ Some text
  pub few : length text ≤ most_bytes

-- What was read and written comes back: the answer to `backs` is the mapped text of the netlist that was read for
-- `words`.
pub record ComesBack (words : List (List ℕ)) (files : Files) (backs : List (List ℕ)) (others : Files) : Type 0 where
  pub library : List ℕ
  pub mapped : List ℕ
  pub there : command_of words ≡ Some (to_verilog library mapped)
  pub cells : List CellParts
  pub netlist : Mapped
  pub library_read : ReadsLibrary library files (Ok cells)
  pub mapped_read : ReadsMapped mapped cells files (Ok netlist)
  pub back : IsAnswer backs others (Ok (plain_text cells netlist.netlist))
