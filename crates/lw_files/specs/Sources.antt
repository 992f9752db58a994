-- What a file says: its text, and what the text means or why it means nothing.
use Rattle.std.specs.Prelude.{◌≡◌, ℕ, true, false, nat_le, List, length, Option, Some, None, Result, Ok, Err}
use Rattle.std.specs.Prelude.{if◌then◌else◌}
use Rattle.lw_words.specs.Limits.{most_bytes}
use Rattle.lw_words.specs.Lines.{LogicalLine, logical_lines}
use Rattle.lw_genlib.specs.declared.fault.LibFault.TheVariants as lib_fault
use Rattle.lw_genlib.specs.Cells.{CellParts}
use Rattle.lw_genlib.specs.Libraries.{library_of}
use Rattle.lw_net.specs.declared.fault.NetFault.TheVariants as whole
use Rattle.lw_blif.specs.declared.parsed.Parsed.{Parsed}
use Rattle.lw_blif.specs.declared.fault.BlifFault.TheVariants as fault
use Rattle.lw_blif.specs.BlifNetworks.{IsBlifNetwork}
use Rattle.lw_named_netlist.specs.declared.fault.NetlistFault.TheVariants as netlist
use Rattle.lw_mapped.specs.declared.closing.Mapped.{Mapped as MappedParts}
use Rattle.lw_mapped.specs.declared.fault.MappedFault.TheVariants as mapped_fault
use Rattle.lw_mapped.specs.Unmapped.{IsUnmapped}
use Rattle.lw_files.specs.declared.fault.FileFault.{FileFault}
use Rattle.lw_files.specs.declared.fault.FileFault.TheVariants.{Unread, TooLong, Library, Network, Undefined, Cycle}
use Rattle.lw_files.specs.declared.fault.FileFault.TheVariants.{Mapped, Twice, Undriven, NetCycle}
use Rattle.lw_files.specs.Steps.{Files, StepTo, gives, followed_by}

-- a step that reads a file
abbrev pub FileStep : Type 0 → Type 1
FileStep A = StepTo FileFault A

-- a file that is there, of at most 67,108,864 bytes
abbrev pub within_limit : Option (List ℕ) → Result (List ℕ) FileFault
within_limit None = Err Unread
within_limit (Some bytes) = if nat_le (length bytes) most_bytes then Ok bytes else Err TooLong

-- the file is there, and it is not too long
unfoldable pub text_of : List ℕ → Files → Result (List ℕ) FileFault
text_of name files = within_limit (files name)

-- the logical lines of a text, in which each `#` begins a comment
abbrev pub lines_in : List ℕ → List LogicalLine
lines_in bytes = logical_lines false bytes

-- and those of a mapped text, in which the lines of a certificate begin with `#@`
abbrev pub marked_lines_in : List ℕ → List LogicalLine
marked_lines_in bytes = logical_lines true bytes

-- the cells that the text lists, or the first line that breaks a rule
abbrev pub HasCells : List ℕ → FileStep (List CellParts)
HasCells bytes files (Ok cells) = library_of (lines_in bytes) ≡ Ok cells
HasCells bytes files (Err (Library line kind)) = library_of (lines_in bytes) ≡ Err (lib_fault.Line line kind)
HasCells bytes files (Err other) = ⊥

-- The model of the text, or the first line that breaks a rule, or else the signal that nothing drives or that reaches
-- itself.
abbrev pub HasModel : List ℕ → FileStep Parsed
HasModel bytes files (Ok model) = IsBlifNetwork (lines_in bytes) (Ok model)
HasModel bytes files (Err (Network line kind)) = IsBlifNetwork (lines_in bytes) (Err (fault.Line line kind))
HasModel bytes files (Err (Undefined name)) = IsBlifNetwork (lines_in bytes) (Err (fault.Whole (whole.Undefined name)))
HasModel bytes files (Err (Cycle name)) = IsBlifNetwork (lines_in bytes) (Err (fault.Whole (whole.Cycle name)))
HasModel bytes files (Err other) = ⊥

-- The netlist of the text by these cells, with what stands around it and its certificate, or the first line that breaks
-- a rule, or else the fault of the netlist as a whole.
abbrev pub HasMapped : List CellParts → List ℕ → FileStep MappedParts
HasMapped cells bytes files (Ok mapped) = IsUnmapped cells (marked_lines_in bytes) (Ok mapped)
HasMapped cells bytes files (Err (Mapped line kind)) =
    IsUnmapped cells (marked_lines_in bytes) (Err (mapped_fault.Line line kind))
HasMapped cells bytes files (Err (Twice name)) =
    IsUnmapped cells (marked_lines_in bytes) (Err (mapped_fault.Whole (netlist.Twice name)))
HasMapped cells bytes files (Err (Undriven name)) =
    IsUnmapped cells (marked_lines_in bytes) (Err (mapped_fault.Whole (netlist.Undriven name)))
HasMapped cells bytes files (Err (NetCycle name)) =
    IsUnmapped cells (marked_lines_in bytes) (Err (mapped_fault.Whole (netlist.Cycle name)))
HasMapped cells bytes files (Err other) = ⊥

abbrev pub ReadsLibrary : List ℕ → FileStep (List CellParts)
ReadsLibrary name = followed_by (gives (text_of name)) HasCells

abbrev pub ReadsModel : List ℕ → FileStep Parsed
ReadsModel name = followed_by (gives (text_of name)) HasModel

abbrev pub ReadsMapped : List ℕ → List CellParts → FileStep MappedParts
ReadsMapped name cells = followed_by (gives (text_of name)) (HasMapped cells)
