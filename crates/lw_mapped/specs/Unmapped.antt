-- What the lines of a mapped text come to: one netlist, with what stands around it and with its certificate, or one
-- fault.
use Rattle.std.specs.Prelude.{ℕ, ◌≡◌, List, [], ◌∷◌, ◌++◌, length, map, Option, Some, None, Result, Ok, Err, ⊤, codes}
use Rattle.std.specs.Prelude.{slice_index_or}
use Rattle.std.specs.List.{flat_map}
use Rattle.lw_words.specs.Lines.{LogicalLine}
use Rattle.lw_fixed.specs.declared.micro.Micro.{Micro}
use Rattle.lw_pool.specs.declared.latch.Frame.{Frame}
use Rattle.lw_pool.specs.declared.id.ClassId.{ClassId}
use Rattle.lw_frame.specs.Frames.{root_names, frame_of, input_names}
use Rattle.lw_frame.specs.Starts.{starts_of}
use Rattle.lw_genlib.specs.Cells.{CellParts}
use Rattle.lw_named_netlist.specs.declared.draft.GateDraft.{GateDraft}
use Rattle.lw_named_netlist.specs.declared.fault.NetlistFault.{NetlistFault}
use Rattle.lw_named_netlist.specs.declared.fault.NetlistFault.TheVariants as whole
use Rattle.lw_netlist.specs.declared.gate.Gate.{Gate}
use Rattle.lw_netlist.specs.Netlists.{NetlistParts}
use Rattle.lw_named_netlist.specs.Closing.{IsClosed, HasFault}
use Rattle.lw_mapped.specs.declared.closing.Mapped.{Mapped}
use Rattle.lw_mapped.specs.declared.fault.MappedFault.{MappedFault}
use Rattle.lw_mapped.specs.declared.fault.MappedFault.TheVariants as fault
use Rattle.lw_mapped.specs.declared.saying.Saying.{Saying}
use Rattle.lw_mapped.specs.Said.{models_in, inputs_in, outputs_in, gates_in, wires_in, latches_in, arrivals_in}
use Rattle.lw_mapped.specs.Said.{labels_in, nets_in, label_among, class_among}
use Rattle.lw_mapped.specs.LineFaults.{FaultAt, text_fault, lines_read, lines_say}
use Rattle.lw_mapped.specs.Texts.{net_name}
use Rattle.lw_words.specs.Words.{first_word}

-- the fault of a netlist as a whole, or that memory ran out
abbrev pub whole_fault : NetlistFault → MappedFault
whole_fault whole.Memory = fault.Memory
whole_fault other = fault.Whole other

-- What is said by lines that break no rule.

-- the netlist by names: latch outputs are inputs, and what latches read is among its outputs
abbrev pub draft_said : List Saying → GateDraft
draft_said said = record {
  model = first_word (flat_map models_in said ++ codes "unnamed" ∷ []);
  inputs = input_names (flat_map inputs_in said) (flat_map latches_in said);
  outputs = root_names (flat_map outputs_in said) (flat_map latches_in said);
  gates = flat_map gates_in said;
  wires = flat_map wires_in said;
}

abbrev pub frame_said : List Saying → Frame
frame_said said = frame_of (flat_map inputs_in said) (flat_map outputs_in said) (flat_map latches_in said)

abbrev pub starts_said : List Saying → List Micro
starts_said said = starts_of (flat_map arrivals_in said) (flat_map inputs_in said) (length (flat_map latches_in said))

-- the class of each gate of a netlist that has one, by the name of its net
abbrev pub classes_said : List Saying → NetlistParts → List (Option ClassId)
classes_said said n = map (λ (gate : Gate). class_among (flat_map nets_in said) (net_name n.names gate.out)) n.gates

-- These parts are said.
pub record IsSaid (said : List Saying) (mapped : Mapped) : Type 0 where
  pub netlist : IsClosed (draft_said said) mapped.netlist
  pub frame : mapped.frame ≡ frame_said said
  pub starts : mapped.starts ≡ starts_said said
  -- each class has the label that is said, a place past the end counting as none
  pub labels : (class : ℕ) → slice_index_or mapped.cert.labels class None ≡ label_among (flat_map labels_in said) class
  pub nets : mapped.cert.nets ≡ classes_said said mapped.netlist

-- The line is told. Running out of memory is always allowed.
abbrev pub TellsLine : FaultAt → Result Mapped MappedFault → Type 0
TellsLine first (Ok mapped) = ⊥
TellsLine first (Err (fault.Line number kind)) = first ≡ record { number = number; kind = kind }
TellsLine first (Err (fault.Whole other)) = ⊥
TellsLine first (Err fault.Memory) = ⊤

-- The fault of the whole, which is never that memory ran out.
abbrev pub HasWholeFault : GateDraft → NetlistFault → Type 0
HasWholeFault draft whole.Memory = ⊥
HasWholeFault draft other = HasFault draft other

-- What is said, or the fault of the whole. Running out of memory is always allowed.
abbrev pub ClosesTo : List Saying → Result Mapped MappedFault → Type 0
ClosesTo said (Ok mapped) = IsSaid said mapped
ClosesTo said (Err (fault.Line number kind)) = ⊥
ClosesTo said (Err (fault.Whole other)) = HasWholeFault (draft_said said) other
ClosesTo said (Err fault.Memory) = ⊤

-- The first line that breaks a rule, or else what is said.
abbrev pub ComesTo : Option FaultAt → List Saying → Result Mapped MappedFault → Type 0
ComesTo (Some first) said result = TellsLine first result
ComesTo None said result = ClosesTo said result

-- What the lines of a text come to, over these cells.
abbrev pub IsUnmapped : List CellParts → List LogicalLine → Result Mapped MappedFault → Type 0
IsUnmapped cells lines result = ComesTo (text_fault cells lines) (lines_say cells (lines_read lines)) result
