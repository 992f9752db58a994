-- Lines of words, and what a sink has taken of a text.
use Rattle.std.specs.Prelude.{ℕ, Bool, List, map, Result, OnOk, OnErr}
use Rattle.std.specs.declared.option.Option.{Option}
use Rattle.std.specs.Io.KnownBytes.{Appends}
use Rattle.lw_io.specs.declared.failed.Failed.{Failed}
use Rattle.lw_io.specs.Moves.{AppendsPrefix}
use Rattle.lw_io.specs.Causes.{HasCause}
use Rattle.lw_words.specs.Lines.{LogicalLine}
use Rattle.lw_report.specs.declared.vectors.Vectors.{Vectors}
use Rattle.lw_report.specs.Standing.{StandsFor}
use Rattle.lw_report.specs.Vectors.{vector_of}

-- The sink takes such a text, or a part of it where it fails.
pub record Writes (IsText : List ℕ → Type 0) (old new : Option (List ℕ))
    (result : Result (Unit {0}) Failed) : Type 0 where
  pub text : List ℕ
  pub is : IsText text
  pub ok : OnOk result (Appends old new text)
  pub failed : OnErr result (AppendsPrefix old new text)

-- The sink takes the values for the vectors of the lines that were given, or a part of them where it fails.
pub record WritesValues (IsSimulation : List (List Bool) → List ℕ → Type 0) (vectors : Vectors) (old : Option (List ℕ))
    (before : ℕ) (new : Option (List ℕ)) (now : ℕ) (result : Result (Unit {0}) Failed) : Type 0 where
  pub text : (lines : List LogicalLine) → StandsFor vectors lines
      → Writes (IsSimulation (map vector_of lines)) old new result
  pub cause : HasCause before now result
