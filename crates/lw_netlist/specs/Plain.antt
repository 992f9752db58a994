-- A netlist as plain data, and what the laws ask of a library.
use Rattle.std.specs.Prelude.{◌≡◌, List, Some, All, length, slice_get}
use Rattle.lw_genlib.specs.Cells.{CellParts}
use Rattle.lw_netlist.specs.declared.gate.Gate.{Gate}
use Rattle.lw_netlist.specs.Netlists.{NetlistParts}
pub use Rattle.lw_netlist.specs.Netlists.{plain_gate, plain, port_name, plain_port, mapped_ports}

-- the gate is a cell of the library, with a net for each of its pins
pub record HasCell (cells : List CellParts) (gate : Gate) : Type 0 where
  pub cell : CellParts
  pub at : slice_get cells gate.cell.0 ≡ Some cell
  pub pins : length gate.pins ≡ length cell.pins

-- the netlist is one of the library's cells
abbrev pub IsOver : List CellParts → NetlistParts → Type 0
IsOver cells n = All (HasCell cells) n.gates
