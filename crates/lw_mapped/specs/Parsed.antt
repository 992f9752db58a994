-- What is told of a line, and what is so of it whatever the line.
use Rattle.std.specs.Prelude.{◌≡◌, ◌<◌, ◌*◌, ⊤, Result, Ok, Err, Option, None, Some}
use Rattle.lw_fixed.specs.declared.micro.Micro.{Micro}
use Rattle.lw_fixed.specs.Decimals.{one_unit}
use Rattle.lw_frame.specs.Starts.{IsEarly}
use Rattle.lw_mapped.specs.declared.fault.MappedKind.{MappedKind}
use Rattle.lw_mapped.specs.declared.fault.Refusal.{Refusal}
use Rattle.lw_mapped.specs.declared.fault.Refusal.TheVariants as refusal
use Rattle.lw_mapped.specs.declared.saying.Saying.{Saying}
use Rattle.lw_mapped.specs.declared.saying.Saying.TheVariants as saying
use Rattle.lw_mapped.specs.Limits.{label_units}
use Rattle.lw_laws.specs.Graphs.{most_classes}

-- What the line says is told, or the rule that it breaks. Running out of memory is always allowed.
abbrev pub Says : Result Saying Refusal → Result Saying MappedKind → Type 0
Says (Ok what) expected = expected ≡ Ok what
Says (Err (refusal.Broken kind)) expected = expected ≡ Err kind
Says (Err refusal.Memory) expected = ⊤

-- The rule that is broken is told, if one is. Running out of memory is always allowed.
abbrev pub TellsFault : Result (Unit {0}) Refusal → Option MappedKind → Type 0
TellsFault (Ok u) fault = fault ≡ None
TellsFault (Err (refusal.Broken kind)) fault = fault ≡ Some kind
TellsFault (Err refusal.Memory) fault = ⊤

-- of fewer units than the limit
abbrev pub IsLabel : Micro → Type 0
IsLabel label = label.0 < label_units * one_unit

-- times and labels below their limits, and class numbers too
abbrev pub IsFit : Saying → Type 0
IsFit (saying.Arrival name start) = IsEarly start
IsFit (saying.DefaultArrival start) = IsEarly start
IsFit (saying.Label class label) = (class.0 < most_classes) × IsLabel label
IsFit (saying.Net name class) = class.0 < most_classes
IsFit other = ⊤
