-- Lines of outputs' values that are written.
use Rattle.std.specs.Prelude.{ℕ, Bool, List}
use Rattle.std.specs.declared.option.Option.{Option}
use Rattle.lw_io.specs.declared.writer.Writer.{Writer}
use Rattle.lw_io.specs.Writers.{Writes}
use Rattle.lw_report.specs.Simulated.{AreLines}

-- the lines of these vectors are put behind what was put before
pub record WritesLines (IsLine : List Bool → List ℕ → Type 0) (vectors : List (List Bool)) {S : Type 0}
    (taken : S → Option (List ℕ)) (faults : S → ℕ) (old new : Writer S) : Type 0 where
  pub text : List ℕ
  pub is : AreLines IsLine vectors text
  pub writes : Writes taken faults old new text
