-- A fault tells what a definition says, or that memory is wanting.
use Rattle.std.specs.Prelude.{◌≡◌, Option, Some, Result, Ok, Err, MatchResult}
use Rattle.lw_genlib.specs.declared.fault.LibFault.{LibFault}
use Rattle.lw_genlib.specs.declared.fault.LibFault.TheVariants.{Line, Memory}

abbrev pub TellsFault : Option LibFault → LibFault → Type 0
TellsFault said (Line line kind) = said ≡ Some (Line line kind)
TellsFault said Memory = Unit {0}

abbrev pub TellsErr : {A : Type 0} → Result A LibFault → LibFault → Type 0
TellsErr said (Line line kind) = said ≡ Err (Line line kind)
TellsErr said Memory = Unit {0}

-- The result is the one that is said. Running out of memory is always allowed.
abbrev pub Gives : {A : Type 0} → Result A LibFault → Result A LibFault → Type 0
Gives said result = MatchResult result (λ x. said ≡ Ok x) (TellsErr said)
