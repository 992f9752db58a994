-- The first rule that a line of a mapped text breaks, behind the lines before it.
use Rattle.std.specs.Prelude.{ℕ, Bool, true, false, not, List, [], ◌∷◌, Option, Some, None, Result, Ok, Err, ⊤}
use Rattle.std.specs.Prelude.{if◌then◌else◌, is_some, codes}
use Rattle.std.specs.List.{flat_map}
use Rattle.std.specs.Str.{bytes_eq}
use Rattle.lw_words.specs.Lines.{LogicalLine}
use Rattle.lw_genlib.specs.Cells.{CellParts}
use Rattle.lw_mapped.specs.declared.command.Command.{Command}
use Rattle.lw_mapped.specs.declared.command.Command.TheVariants.{Model, Names, End}
use Rattle.lw_mapped.specs.declared.fault.MappedKind.{MappedKind}
use Rattle.lw_mapped.specs.declared.fault.MappedKind.TheVariants as kind
use Rattle.lw_mapped.specs.declared.saying.Saying.{Saying}
use Rattle.lw_mapped.specs.declared.saying.Saying.TheVariants as saying
use Rattle.lw_mapped.specs.Commands.{command_of}
use Rattle.lw_mapped.specs.Sayings.{words_say}
use Rattle.lw_mapped.specs.Said.{label_among, class_among, labels_in, nets_in}
use Rattle.lw_frame.specs.Ending.{lines_until, has_end}
use Rattle.lw_blif_text.specs.FirstFaults as faults
use Rattle.lw_blif_text.specs.FirstFaults.{first_fault_by}
use Rattle.lw_words.specs.Words.{first_word}

abbrev pub command : LogicalLine → Command
command line = command_of (first_word line.words)

-- The end of a reading.

-- The command ends the reading: a model does so where it is not on the first line.
abbrev pub ends : Bool → Command → Bool
ends first End = true
ends first Model = not first
ends first other = false

abbrev pub goes_on : LogicalLine → Bool
goes_on line = not (ends false (command line))

abbrev pub ends_on : Bool → LogicalLine → Bool
ends_on first line = ends first (command line)

-- the lines that are read
abbrev pub lines_read : List LogicalLine → List LogicalLine
lines_read lines = lines_until ends_on lines

-- a line of these ends the reading
abbrev pub has_ended : List LogicalLine → Bool
has_ended lines = has_end ends_on lines

-- Wires and their rows.

abbrev pub is_names_command : Command → Bool
is_names_command Names = true
is_names_command other = false

-- the number of the last line, if it is a wire, whose row comes next
unfoldable pub wire_without_row : List LogicalLine → Option ℕ
wire_without_row [] = None
wire_without_row (line ∷ []) = if is_names_command (command line) then Some line.number else None
wire_without_row (line ∷ next ∷ lines) = wire_without_row (next ∷ lines)

abbrev pub is_row : List (List ℕ) → Bool
is_row (first ∷ second ∷ []) = if bytes_eq first (codes "1") then bytes_eq second (codes "1") else false
is_row words = false

-- What lines that break no rule say.

abbrev pub what_is_said : Result Saying MappedKind → List Saying
what_is_said (Ok what) = what ∷ []
what_is_said (Err kind) = []

abbrev pub line_says : List CellParts → LogicalLine → List Saying
line_says cells line = what_is_said (words_say cells line.words)

unfoldable pub lines_say : List CellParts → List LogicalLine → List Saying
lines_say cells lines = flat_map (line_says cells) lines

-- The rules.

-- a label of a class that has one, or the class of a net that has one
abbrev pub is_told : List Saying → Saying → Bool
is_told before (saying.Label class label) = is_some (label_among (flat_map labels_in before) class.0)
is_told before (saying.Net name class) = is_some (class_among (flat_map nets_in before) name)
is_told before other = false

-- lines may say this again
abbrev pub MaySayAgain : Saying → Type 0
MaySayAgain (saying.Label class label) = ⊥
MaySayAgain (saying.Net name class) = ⊥
MaySayAgain other = ⊤

abbrev pub told_fault : List Saying → Saying → Option MappedKind
told_fault before what = if is_told before what then Some kind.Certificate else None

abbrev pub saying_fault : List Saying → Result Saying MappedKind → Option MappedKind
saying_fault before (Err kind) = Some kind
saying_fault before (Ok what) = told_fault before what

-- Behind a wire its row, and else what the line says.
abbrev pub fault_behind : Option ℕ → List Saying → List (List ℕ) → Result Saying MappedKind → Option MappedKind
fault_behind (Some number) before words what = if is_row words then None else Some kind.Shape
fault_behind None before words what = saying_fault before what

-- The first rule that the line breaks behind these, which break none.
unfoldable pub line_fault : List CellParts → List LogicalLine → LogicalLine → Option MappedKind
line_fault cells before line =
    if line.long then Some kind.LongWord
    else fault_behind (wire_without_row before) (lines_say cells before) line.words (words_say cells line.words)

-- a rule, and the number of the line that breaks it
abbrev pub FaultAt : Type 0
FaultAt = faults.FaultAt MappedKind

-- the first of the lines behind these that breaks a rule
abbrev pub first_fault : List CellParts → List LogicalLine → List LogicalLine → Option FaultAt
first_fault cells before lines = first_fault_by (line_fault cells) before lines

abbrev pub fault_else : Option FaultAt → Option ℕ → Option FaultAt
fault_else (Some fault) wire = Some fault
fault_else None (Some number) = Some (record { number = number; kind = kind.Shape })
fault_else None None = None

-- The first fault of the lines of a whole text: of a line, or else of a wire at the end that has no row.
unfoldable pub text_fault : List CellParts → List LogicalLine → Option FaultAt
text_fault cells lines = fault_else (first_fault cells [] (lines_read lines)) (wire_without_row (lines_read lines))
