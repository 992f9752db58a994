-- What a text comes to: one netlist, or one fault.
use Rattle.std.specs.Prelude.{ℕ, ◌≡◌, List, Result, Ok, Err, ⊤}
use Rattle.lw_genlib.specs.Cells.{CellParts}
use Rattle.lw_named_netlist.specs.declared.draft.GateDraft.{GateDraft}
use Rattle.lw_named_netlist.specs.declared.fault.NetlistFault.{NetlistFault}
use Rattle.lw_named_netlist.specs.declared.fault.NetlistFault.TheVariants as whole
use Rattle.lw_netlist.specs.Netlists.{NetlistParts}
use Rattle.lw_named_netlist.specs.Closing.{IsClosed}
use Rattle.lw_verilog.specs.declared.fault.VerilogFault.{VerilogFault}
use Rattle.lw_verilog.specs.declared.fault.VerilogFault.TheVariants as fault
use Rattle.lw_verilog.specs.Readings.{FaultAt, Reading, nothing_read, read}
use Rattle.lw_verilog.specs.Statements.{draft_of}
use Rattle.lw_verilog.specs.Tokens.{tokens}
use Rattle.lw_mapped.specs.Unmapped.{HasWholeFault}

-- the fault of a netlist as a whole, or that memory ran out
abbrev pub whole_fault : NetlistFault → VerilogFault
whole_fault whole.Memory = fault.Memory
whole_fault other = fault.Whole other

-- The draft's netlist, or the fault of the whole. Running out of memory is always allowed.
abbrev pub ClosesTo : GateDraft → Result NetlistParts VerilogFault → Type 0
ClosesTo draft (Ok n) = IsClosed draft n
ClosesTo draft (Err (fault.Line line kind)) = ⊥
ClosesTo draft (Err (fault.Whole other)) = HasWholeFault draft other
ClosesTo draft (Err fault.Memory) = ⊤

-- The token is told. Running out of memory is always allowed.
abbrev pub Tells : FaultAt → Result NetlistParts VerilogFault → Type 0
Tells first (Ok n) = ⊥
Tells first (Err (fault.Line line kind)) = first ≡ record { line = line; kind = kind }
Tells first (Err (fault.Whole other)) = ⊥
Tells first (Err fault.Memory) = ⊤

-- the first token that breaks a rule, or else the netlist that is said
abbrev pub ComesTo : List CellParts → Result Reading FaultAt → Result NetlistParts VerilogFault → Type 0
ComesTo cells (Ok r) result = ClosesTo (draft_of cells r.said) result
ComesTo cells (Err first) result = Tells first result

-- What a text comes to, over these cells.
abbrev pub IsRead : List CellParts → List ℕ → Result NetlistParts VerilogFault → Type 0
IsRead cells text result = ComesTo cells (read cells nothing_read (tokens text)) result

-- one netlist, or one fault
abbrev pub AreSame : Result NetlistParts VerilogFault → Result NetlistParts VerilogFault → Type 0
AreSame (Ok a) (Ok b) = a ≡ b
AreSame (Err e) (Err f) = e ≡ f
AreSame (Ok a) (Err f) = ⊥
AreSame (Err e) (Ok b) = ⊥
