-- The times at which the inputs of a circuit arrive.
use Rattle.std.specs.Prelude.{ℕ, ◌≡◌, ◌*◌, ◌<◌, max, Bool, true, false, List, [], ◌∷◌, ◌++◌, length, map, filter}
use Rattle.std.specs.Prelude.{reverse, replicate, drop, All, Option, Some, None, unwrap_or, Result, Ok, Err}
use Rattle.std.specs.Str.{bytes_eq}
use Rattle.lw_fixed.specs.declared.micro.Micro.{Micro}
use Rattle.lw_fixed.specs.declared.fault.DecimalFault.{DecimalFault}
use Rattle.lw_fixed.specs.Decimals.{one_unit, given_units, decimal_of}
use Rattle.lw_pool.specs.declared.latch.Frame.{Frame}

-- What an arrival line says: the start of the input of this name, or, without a name, that of each input that has no
-- line of its own.
pub record Arrival : Type 0 where
  pub named : Option (List ℕ)
  pub start : Micro

-- Words.

-- the start is the later of the two times
abbrev pub start_at : Result Micro DecimalFault → Result Micro DecimalFault → Result Micro DecimalFault
start_at (Ok rise) (Ok fall) = Ok (record { 0 = max rise.0 fall.0 })
start_at (Ok rise) (Err fault) = Err fault
start_at (Err fault) fall = Err fault

-- The start that the words for the rise and for the fall say, in decimals of fewer than a million units, or the first
-- fault of the two.
unfoldable pub start_said : List ℕ → List ℕ → Result Micro DecimalFault
start_said rise fall = start_at (decimal_of rise given_units) (decimal_of fall given_units)

-- Starts.

abbrev pub is_named : List ℕ → Option (List ℕ) → Bool
is_named name (Some other) = bytes_eq other name
is_named name None = false

abbrev pub is_for_all : Option (List ℕ) → Bool
is_for_all (Some name) = false
is_for_all None = true

abbrev pub first_start : List Arrival → Option Micro
first_start [] = None
first_start (arrival ∷ arrivals) = Some arrival.start

-- the start that the last of the lines with such a name says
abbrev pub last_start : (Option (List ℕ) → Bool) → List Arrival → Option Micro
last_start is arrivals = first_start (reverse (filter (λ (arrival : Arrival). is arrival.named) arrivals))

abbrev pub at_once : Micro
at_once = record { 0 = 0 }

-- The start of an input: by the last line of its own, else by the last line for all, else 0.
abbrev pub start_of : List Arrival → List ℕ → Micro
start_of arrivals name =
    unwrap_or (last_start (is_named name) arrivals) (unwrap_or (last_start is_for_all arrivals) at_once)

-- The starts of the inputs of a combinational part: of the circuit's own, and then of so many latch outputs, which no
-- line touches.
abbrev pub starts_of : List Arrival → List (List ℕ) → ℕ → List Micro
starts_of arrivals inputs latches = map (start_of arrivals) inputs ++ replicate latches at_once

-- below a million units
abbrev pub IsEarly : Micro → Type 0
IsEarly start = start.0 < given_units * one_unit

-- The starts fit the frame of a combinational part with so many inputs.
pub record StartsFit (frame : Frame) (inputs : ℕ) (starts : List Micro) : Type 0 where
  pub one_each : length starts ≡ inputs
  pub early : All IsEarly starts
  -- latch outputs start at 0
  pub latches : drop frame.inputs starts ≡ replicate (length frame.latches) at_once
