-- What a reader keeps of the lines that it was given. Behind a fault it keeps the fault alone.
use Rattle.std.specs.Prelude.{Bool, List, Option}
use Rattle.lw_words.specs.Lines.{LogicalLine}
use Rattle.lw_blif_text.specs.declared.stop.Stop.{Stop}
use Rattle.lw_blif_text.specs.Standing.{IsKeptBy}
use Rattle.lw_blif.specs.declared.fault.BlifKind.{BlifKind}
use Rattle.lw_blif.specs.declared.parts.Parts.{Parts}
use Rattle.lw_blif.specs.LineFaults.{line_fault, ends_on}
use Rattle.lw_blif.specs.Keeping.{Keeps}

-- This is kept of these lines.
abbrev pub IsKept : Bool → Bool → Option (Stop BlifKind) → Parts → List LogicalLine → Type 0
IsKept is_begun is_ended stopped parts lines = IsKeptBy ends_on line_fault Keeps is_begun is_ended stopped parts lines

-- This is kept of some lines.
pub record IsKeptOfSome (is_begun is_ended : Bool) (stopped : Option (Stop BlifKind)) (parts : Parts) : Type 0 where
  pub lines : List LogicalLine
  pub kept : IsKept is_begun is_ended stopped parts lines
