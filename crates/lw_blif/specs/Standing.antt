-- What a reader stands for: the lines that it was given.
use Rattle.std.specs.Prelude.{◌≡◌, List, Option, Some, None, Result, Ok, Err, ⊤}
use Rattle.lw_words.specs.Lines.{LogicalLine}
use Rattle.lw_blif_text.specs.declared.stop.Stop.{Stop}
use Rattle.lw_blif_text.specs.declared.stop.Stop.TheVariants as stop
use Rattle.lw_blif.specs.declared.reader.Reader.{Reader}
use Rattle.lw_blif.specs.declared.fault.BlifKind.{BlifKind}
use Rattle.lw_blif.specs.declared.fault.BlifFault.{BlifFault}
use Rattle.lw_blif.specs.declared.fault.BlifFault.TheVariants as fault
use Rattle.lw_blif.specs.LineFaults.{FaultAt}
use Rattle.lw_blif.specs.Given.{IsKept}

abbrev pub stop_of : Reader → Option (Stop BlifKind)
stop_of reader = reader.stop

-- what a reader answers from then on
abbrev pub fault_of : Stop BlifKind → BlifFault
fault_of (stop.Broken number kind) = fault.Line number kind
fault_of stop.Memory = fault.Memory

-- The answer tells the first fault. Running out of memory is always allowed.
abbrev pub Tells : Result (Unit {0}) BlifFault → Option FaultAt → Type 0
Tells (Ok u) first = first ≡ None
Tells (Err (fault.Line number kind)) first = first ≡ Some (record { number = number; kind = kind })
Tells (Err (fault.Whole other)) first = ⊥
Tells (Err fault.Memory) first = ⊤

-- The answer is that of each later line too: it is kept why no more is read, or nothing where the answer is good.
abbrev pub Stopped : Result (Unit {0}) BlifFault → Option (Stop BlifKind) → Type 0
Stopped (Ok u) stopped = stopped ≡ None
Stopped (Err answer) None = ⊥
Stopped (Err answer) (Some why) = answer ≡ fault_of why

-- The reader was given these lines.
abbrev pub StandsFor : Reader → List LogicalLine → Type 0
StandsFor reader lines = IsKept reader.begun reader.ended reader.stop reader.parts lines
