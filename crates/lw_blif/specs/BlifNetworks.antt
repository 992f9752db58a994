-- What the lines of a text come to: one model, or one fault.
use Rattle.std.specs.Prelude.{◌≡◌, List, [], Option, Some, None, Result, Ok, Err, ⊤}
use Rattle.lw_words.specs.Lines.{LogicalLine}
use Rattle.lw_net.specs.declared.draft.Draft.{Draft}
use Rattle.lw_net.specs.declared.fault.NetFault.{NetFault}
use Rattle.lw_net.specs.declared.fault.NetFault.TheVariants as whole
use Rattle.lw_net.specs.Networks.{IsNetwork, input_names, output_names}
use Rattle.lw_net.specs.Closing.{HasFault}
use Rattle.std.specs.List.{IsDistinct}
use Rattle.std.specs.Str.{bytes_eq}
use Rattle.lw_frame.specs.Frames.{Fits}
use Rattle.lw_frame.specs.Starts.{StartsFit}
use Rattle.lw_blif.specs.declared.parsed.Parsed.{Parsed}
use Rattle.lw_blif.specs.declared.fault.BlifFault.{BlifFault}
use Rattle.lw_blif.specs.declared.fault.BlifFault.TheVariants as fault
use Rattle.lw_blif.specs.LineFaults.{FaultAt, first_fault, lines_read}
use Rattle.lw_blif.specs.Drafts.{draft_of}
pub use Rattle.lw_blif.specs.Drafts.{IsModelOf}

-- the fault of a network as a whole, or that memory ran out
abbrev pub whole_fault : NetFault → BlifFault
whole_fault whole.Memory = fault.Memory
whole_fault other = fault.Whole other

-- The line is told. Running out of memory is always allowed.
abbrev pub TellsLine : FaultAt → Result Parsed BlifFault → Type 0
TellsLine first (Ok model) = ⊥
TellsLine first (Err (fault.Line number kind)) = first ≡ record { number = number; kind = kind }
TellsLine first (Err (fault.Whole other)) = ⊥
TellsLine first (Err fault.Memory) = ⊤

-- The fault of the whole, which is never that memory ran out.
abbrev pub HasWholeFault : Draft → NetFault → Type 0
HasWholeFault draft (whole.Undefined name) = HasFault draft (whole.Undefined name)
HasWholeFault draft (whole.Cycle name) = HasFault draft (whole.Cycle name)
HasWholeFault draft whole.Memory = ⊥

-- The model of the lines, or the fault of the whole. Running out of memory is always allowed.
abbrev pub ClosesTo : List LogicalLine → Result Parsed BlifFault → Type 0
ClosesTo lines (Ok model) = IsModelOf lines model
ClosesTo lines (Err (fault.Line number kind)) = ⊥
ClosesTo lines (Err (fault.Whole other)) = HasWholeFault (draft_of lines) other
ClosesTo lines (Err fault.Memory) = ⊤

-- The first line that breaks a rule, or else what the lines are closed to.
abbrev pub ComesTo : Option FaultAt → List LogicalLine → Result Parsed BlifFault → Type 0
ComesTo (Some first) lines result = TellsLine first result
ComesTo None lines result = ClosesTo lines result

-- What the lines of a text come to.
abbrev pub IsBlifNetwork : List LogicalLine → Result Parsed BlifFault → Type 0
IsBlifNetwork lines result = ComesTo (first_fault [] (lines_read lines)) (lines_read lines) result

-- The network of a model is one whose names differ, also those of its outputs, and the frame and the starts fit it.
pub record IsModel (model : Parsed) : Type 0 where
  pub network : IsNetwork model.network
  pub names : IsDistinct bytes_eq model.network.names
  pub frame : Fits model.frame (input_names model.network) (output_names model.network)
  pub starts : StartsFit model.frame model.network.inputs model.starts
  pub inputs : IsDistinct bytes_eq (input_names model.network)
  pub outputs : IsDistinct bytes_eq (output_names model.network)
