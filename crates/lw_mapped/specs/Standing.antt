-- What a reader stands for: the lines that it was given, over one library.
use Rattle.std.specs.Prelude.{ℕ, ◌≡◌, ◌<◌, ◌≤◌, Bool, List, Option, Some, None, Result, Ok, Err, ⊤, length}
use Rattle.std.specs.Prelude.{sum_by, All, IfSome, IsSome}
use Rattle.lw_words.specs.Lines.{LogicalLine}
use Rattle.lw_genlib.specs.Cells.{CellParts}
use Rattle.lw_mapped.specs.declared.certificate.Certificate.{Certificate}
use Rattle.lw_mapped.specs.declared.parts.Parts.{Parts}
use Rattle.lw_mapped.specs.declared.fault.MappedKind.{MappedKind}
use Rattle.lw_mapped.specs.declared.fault.MappedFault.{MappedFault}
use Rattle.lw_mapped.specs.declared.fault.MappedFault.TheVariants as fault
use Rattle.lw_mapped.specs.declared.fault.Refusal.{Refusal}
use Rattle.lw_mapped.specs.declared.fault.Refusal.TheVariants as refusal
use Rattle.lw_mapped.specs.declared.reader.MappedReader.{MappedReader}
use Rattle.lw_mapped.specs.Keeping.{Keeps}
use Rattle.lw_mapped.specs.LineFaults.{FaultAt, line_fault, ends_on, lines_say, wire_without_row}
use Rattle.lw_mapped.specs.Limits.{word_limit}
use Rattle.lw_mapped.specs.Parsed.{IsLabel}
use Rattle.lw_laws.specs.Graphs.{most_classes}
use Rattle.lw_blif_text.specs.declared.stop.Stop.{Stop}
use Rattle.lw_blif_text.specs.declared.stop.Stop.TheVariants as stop
use Rattle.lw_blif_text.specs.Standing.{IsKeptBy}

-- What a reader answers.

abbrev pub stop_of : MappedReader → Option (Stop MappedKind)
stop_of reader = reader.stop

-- what a reader answers from then on
abbrev pub fault_of : Stop MappedKind → MappedFault
fault_of (stop.Broken number kind) = fault.Line number kind
fault_of stop.Memory = fault.Memory

-- a reader stops at the line with this number
abbrev pub stop_at : ℕ → Refusal → Stop MappedKind
stop_at number (refusal.Broken kind) = stop.Broken number kind
stop_at number refusal.Memory = stop.Memory

-- The answer tells the first fault. Running out of memory is always allowed.
abbrev pub Tells : Result (Unit {0}) MappedFault → Option FaultAt → Type 0
Tells (Ok u) first = first ≡ None
Tells (Err (fault.Line number kind)) first = first ≡ Some (record { number = number; kind = kind })
Tells (Err (fault.Whole other)) first = ⊥
Tells (Err fault.Memory) first = ⊤

-- The answer is that of each later line too: it is kept why no more is read, or nothing where the answer is good.
abbrev pub Stopped : Result (Unit {0}) MappedFault → Option (Stop MappedKind) → Type 0
Stopped (Ok u) stopped = stopped ≡ None
Stopped (Err answer) None = ⊥
Stopped (Err answer) (Some why) = answer ≡ fault_of why

-- A reader that has stopped answers the same from then on, and stays as it is.
pub record StaysStopped (old new : MappedReader) (result : Result (Unit {0}) MappedFault) : Type 0 where
  pub stopped : Stopped result (stop_of new)
  pub again : IfSome (stop_of old) (λ stop. result ≡ Err (fault_of stop))
  pub unchanged : IsSome (stop_of old) → new ≡ old

-- What is kept of the lines.

-- This is kept of lines that are read and break no rule.
pub record KeepsLines (parts : Parts) (cells : List CellParts) (lines : List LogicalLine) : Type 0 where
  pub wire : parts.wire ≡ wire_without_row lines
  pub said : Keeps parts.contents (lines_say cells lines)

-- This is kept of the lines that were given.
abbrev pub IsKept : Bool → Bool → Option (Stop MappedKind) → Parts → List CellParts → List LogicalLine → Type 0
IsKept is_begun is_ended stopped parts cells lines =
    IsKeptBy ends_on (line_fault cells) (λ (kept : Parts). KeepsLines kept cells) is_begun is_ended stopped parts lines

-- The reader was given these lines over these cells.
abbrev pub StandsFor : MappedReader → List CellParts → List LogicalLine → Type 0
StandsFor reader cells lines = IsKept reader.begun reader.ended reader.stop reader.parts cells lines

-- How much was given.

abbrev pub word_count : List LogicalLine → ℕ
word_count lines = sum_by (λ (line : LogicalLine). length line.words) lines

-- The reader was given some lines, of fewer words together than the limit.
pub record IsGivenFew (reader : MappedReader) (cells : List CellParts) : Type 0 where
  pub lines : List LogicalLine
  pub stands : StandsFor reader cells lines
  pub few : word_count lines < word_limit

-- labels below their limit, at class numbers
pub record AreLabels (certificate : Certificate) : Type 0 where
  pub classes : length certificate.labels ≤ most_classes
  pub labels : All (λ label. IfSome label IsLabel) certificate.labels
