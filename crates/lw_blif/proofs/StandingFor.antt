-- What a reader answers where it stopped, and that what is kept is kept of some lines.
use Rattle.std.proofs.Common.{◌≡◌, Bool, false, List, [], ◌∷◌, ◌++◌, Option, Some, None, Err}
use Rattle.std.proofs.Math.Logic.{∥∥₁_map}
use Rattle.std.proofs.lemmas.Grind.{merely}
use Rattle.lw_words.specs.Lines.{LogicalLine}
use Rattle.lw_blif_text.specs.declared.stop.Stop.{Stop}
use Rattle.lw_blif_text.specs.declared.stop.Stop.TheVariants as stop
use Rattle.lw_blif_text.specs.Standing.{Stops}
use Rattle.lw_blif_text.proofs.StandingFor.{stops-on, no_fault, stands-new}
use Rattle.lw_blif.specs.declared.parts.Parts.{Parts}
use Rattle.lw_blif.specs.declared.fault.BlifKind.{BlifKind}
use Rattle.lw_blif.specs.LineFaults.{FaultAt, first_fault, lines_read, line_fault, ends_on}
use Rattle.lw_blif.specs.Keeping.{Keeps, IsOfSome}
use Rattle.lw_blif.specs.Given.{IsKept, IsKeptOfSome}
use Rattle.lw_blif.specs.Standing.{Tells, fault_of}

tells-stop : (s : Stop BlifKind) (first : Option FaultAt) → Stops (Some s) first → Tells (Err (fault_of s)) first
tells-stop (stop.Broken number kind) first h = h
tells-stop stop.Memory first h = tt

pub tells-stopped : (begun ended : Bool) (o : Option (Stop BlifKind)) (parts : Parts) (s : Stop BlifKind) (lines : List LogicalLine) (line : LogicalLine) → o ≡ Some s → IsKept begun ended o parts lines → Tells (Err (fault_of s)) (first_fault [] (lines_read (lines ++ line ∷ [])))
tells-stopped begun ended o parts s lines line e h = tells-stop s (first_fault [] (lines_read (lines ++ line ∷ []))) (stops-on begun ended o parts s lines line e h)

-- What is kept is kept of some lines.

pub some-new : (parts : Parts) → Keeps parts [] → ∥ IsKeptOfSome false false None parts ∥₁
some-new parts keeps = merely (record { lines = []; kept = stands-new ends_on line_fault Keeps parts keeps })

pub some-more : (begun ended begun' ended' : Bool) (o o' : Option (Stop BlifKind)) (parts parts' : Parts) (line : LogicalLine) → ((lines : List LogicalLine) → IsKept begun ended o parts lines → IsKept begun' ended' o' parts' (lines ++ line ∷ [])) →
    ∥ IsKeptOfSome begun ended o parts ∥₁ → ∥ IsKeptOfSome begun' ended' o' parts' ∥₁
some-more begun ended begun' ended' o o' parts parts' line step some = ∥∥₁_map some (λ h. record { lines = h.lines ++ line ∷ []; kept = step h.lines h.kept })

-- the lines that are kept of break no rule where there is no fault
pub some-parts : (begun ended : Bool) (o : Option (Stop BlifKind)) (parts : Parts) → o ≡ None → ∥ IsKeptOfSome begun ended o parts ∥₁ → ∥ IsOfSome parts ∥₁
some-parts begun ended o parts e some =
    ∥∥₁_map some (λ h. record { lines = lines_read h.lines; unbroken = no_fault begun ended o parts h.lines e h.kept; kept = h.kept.kept e })
