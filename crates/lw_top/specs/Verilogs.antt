-- What a mapped netlist comes to in Verilog, and a netlist in Verilog as a mapped text.
use Rattle.std.specs.Prelude.{ℕ, ◌≡◌, List, [], length, Some, None, Ok, Err}
use Rattle.lw_pool.specs.declared.latch.Frame.{Frame}
use Rattle.lw_genlib.specs.Cells.{CellParts}
use Rattle.lw_netlist.specs.Netlists.{NetlistParts}
use Rattle.lw_mapped.specs.declared.closing.Mapped.{Mapped}
use Rattle.lw_mapped.specs.Texts.{mapped_text}
use Rattle.lw_verilog.specs.Sayable.{refused}
use Rattle.lw_verilog.specs.Texts.{verilog_text}
use Rattle.lw_top.specs.declared.refusal.Refusal.TheVariants.{NoVerilog}
use Rattle.lw_top.specs.Counts.{at_once}
use Rattle.lw_top.specs.Steps.{Step}

-- the netlist's text in Verilog, whatever the files, or why it has none
abbrev pub SaysVerilog : List CellParts → Mapped → Step (List ℕ)
SaysVerilog cells mapped files (Ok text) =
    (refused cells mapped.netlist mapped.frame ≡ None) × (text ≡ verilog_text cells mapped.netlist)
SaysVerilog cells mapped files (Err (NoVerilog why)) = refused cells mapped.netlist mapped.frame ≡ Some why
SaysVerilog cells mapped files (Err other) = ⊥

-- nothing stands around the netlist: no latches, and all its inputs and outputs are the circuit's own
abbrev pub whole_frame : NetlistParts → Frame
whole_frame n = record { inputs = n.inputs; outputs = length n.outputs; latches = [] }

-- the mapped text of a netlist without latches, starts and certificate
abbrev pub plain_text : List CellParts → NetlistParts → List ℕ
plain_text cells n = mapped_text cells n (whole_frame n) (at_once n.inputs) None

abbrev pub SaysMapped : List CellParts → NetlistParts → Step (List ℕ)
SaysMapped cells n files (Ok text) = text ≡ plain_text cells n
SaysMapped cells n files (Err r) = ⊥
