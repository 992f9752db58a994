-- Which netlists have a text in Verilog that reads back.
use Rattle.std.proofs.Common.{◌≡◌, ◌<◌, ◌^◌, Bool, true, false, List, length, Option, Some, None, if◌then◌else◌}
use Rattle.std.specs.Prelude.{nat_lt}
use Rattle.lw_pool.specs.declared.latch.Frame.{Frame}
use Rattle.lw_genlib.specs.Cells.{CellParts, IsLibrary}
use Rattle.lw_netlist.specs.Netlists.{NetlistParts, IsNetlist}
use Rattle.lw_netlist.specs.Plain.{IsOver}
use Rattle.lw_mapped.specs.Readable.{IsNamed}
use Rattle.lw_verilog.specs.declared.reason.NoVerilog.{NoVerilog}
use Rattle.lw_verilog.specs.declared.reason.NoVerilog.TheVariants.{Latches}
use Rattle.lw_verilog.specs.Sayable.{netlist_refused, refused}
use Rattle.lw_verilog.specs.Writable.{IsWritable}

-- without latches the tests are those of the netlist alone
by_latches : (b : Bool) (rest : Option NoVerilog) → (if b then Some Latches else rest) ≡ None → rest ≡ None
by_latches true rest e = cc
by_latches false rest e = e

pub writable : (cells : List CellParts) (n : NetlistParts) (frame : Frame) → IsLibrary cells → IsNetlist n → IsOver cells n → IsNamed n → length n.outputs < 2 ^ 62 → refused cells n frame ≡ None → IsWritable cells n
writable cells n frame lib kept over named few none = record {
  library = lib;
  netlist = kept;
  over = over;
  said = by_latches (nat_lt 0 (length frame.latches)) (netlist_refused cells n) none;
  by_depth = named.by_depth;
  model = named.model;
  signals = named.signals;
  outputs = named.outputs;
  names = named.names;
  few = few;
}
