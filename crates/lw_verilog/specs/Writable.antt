-- Whose Verilog texts are written, and read back.
use Rattle.std.specs.Prelude.{◌≡◌, ◌<◌, ◌^◌, List, length, None, All}
use Rattle.lw_laws.specs.MappedNetlists.{AreNetNames}
use Rattle.lw_laws.specs.Netlists.{AreByDepth}
use Rattle.lw_genlib.specs.Cells.{CellParts, IsLibrary}
use Rattle.lw_netlist.specs.Netlists.{NetlistParts, IsNetlist}
use Rattle.lw_netlist.specs.Plain.{IsOver, plain}
use Rattle.lw_mapped.specs.Readable.{ports_of}
use Rattle.lw_mapped.specs.Texts.{names_of_outputs}
use Rattle.lw_verilog.specs.Sayable.{netlist_refused}
use Rattle.lw_words.specs.Words.{IsSignalName}

-- A netlist of the library's cells that no test refuses, whose nets and ports have names of the
-- format that differ, with its gates by depth, and with no more outputs than memory holds.
pub record IsWritable (cells : List CellParts) (n : NetlistParts) : Type 0 where
  pub library : IsLibrary cells
  pub netlist : IsNetlist n
  pub over : IsOver cells n
  pub said : netlist_refused cells n ≡ None
  pub by_depth : AreByDepth (plain n)
  pub model : IsSignalName n.model
  pub signals : All IsSignalName n.names
  pub outputs : All IsSignalName (names_of_outputs n)
  pub names : AreNetNames (plain n) n.names (ports_of n)
  pub few : length n.outputs < 2 ^ 62
