-- What a text in Verilog is that was written of a mapped netlist, why there is none, and what a mapped text is of a
-- netlist in Verilog.
use Rattle.std.specs.Prelude.{◌≡◌, ℕ, List, Some, None, Ok}
use Rattle.lw_genlib.specs.Cells.{CellParts}
use Rattle.lw_netlist.specs.Netlists.{NetlistParts}
use Rattle.lw_mapped.specs.declared.closing.Mapped.{Mapped}
use Rattle.lw_verilog.specs.declared.reason.NoVerilog.{NoVerilog}
use Rattle.lw_verilog.specs.Sayable.{refused}
use Rattle.lw_verilog.specs.Texts.{verilog_text}
use Rattle.lw_files.specs.Steps.{Files}
use Rattle.lw_top.specs.Words.{to_verilog, from_verilog, command_of}
use Rattle.lw_top.specs.Answers.{ReadsLibrary, ReadsMapped, ReadsVerilog}
use Rattle.lw_top.specs.Verilogs.{plain_text}

-- the words ask for a mapped netlist in Verilog
pub record AsksForVerilog (words : List (List ℕ)) : Type 0 where
  pub library : List ℕ
  pub mapped : List ℕ
  pub form : command_of words ≡ Some (to_verilog library mapped)

-- the words ask for the mapped text of a netlist in Verilog
pub record AsksForMapped (words : List (List ℕ)) : Type 0 where
  pub library : List ℕ
  pub verilog : List ℕ
  pub form : command_of words ≡ Some (from_verilog library verilog)

-- The text is that in Verilog of the mapped netlist that was read, which none of the tests refuses: it has no latches.
pub record IsVerilogText (words : List (List ℕ)) (files : Files) (text : List ℕ) : Type 0 where
  pub asks : AsksForVerilog words
  pub cells : List CellParts
  pub mapped : Mapped
  pub library : ReadsLibrary asks.library files (Ok cells)
  pub read : ReadsMapped asks.mapped cells files (Ok mapped)
  pub sayable : refused cells mapped.netlist mapped.frame ≡ None
  pub written : text ≡ verilog_text cells mapped.netlist

-- The first test by which the mapped netlist that was read has no text in Verilog.
pub record LacksVerilog (words : List (List ℕ)) (files : Files) (why : NoVerilog) : Type 0 where
  pub asks : AsksForVerilog words
  pub cells : List CellParts
  pub mapped : Mapped
  pub library : ReadsLibrary asks.library files (Ok cells)
  pub read : ReadsMapped asks.mapped cells files (Ok mapped)
  pub unsayable : refused cells mapped.netlist mapped.frame ≡ Some why

-- The text is the mapped text, without latches, starts and certificate, of the netlist that the text in Verilog says.
pub record IsTextOfVerilog (words : List (List ℕ)) (files : Files) (text : List ℕ) : Type 0 where
  pub asks : AsksForMapped words
  pub cells : List CellParts
  pub netlist : NetlistParts
  pub library : ReadsLibrary asks.library files (Ok cells)
  pub read : ReadsVerilog asks.verilog cells files (Ok netlist)
  pub written : text ≡ plain_text cells netlist
