-- What a reader keeps of the lines that it was given. Behind a fault it keeps the fault alone.
use Rattle.std.specs.Prelude.{◌≡◌, Bool, not, List, [], Option, Some, None, ⊤}
use Rattle.lw_words.specs.Lines.{LogicalLine}
use Rattle.lw_frame.specs.Ending.{lines_until, has_end, is_first}
use Rattle.lw_blif_text.specs.declared.stop.Stop.{Stop}
use Rattle.lw_blif_text.specs.declared.stop.Stop.TheVariants as stop
use Rattle.lw_blif_text.specs.FirstFaults.{FaultAt, first_fault_by}

-- The reader stopped at this first fault. Running out of memory is always allowed.
abbrev pub Stops : {K : Type 0} → Option (Stop K) → Option (FaultAt K) → Type 0
Stops None first = first ≡ None
Stops (Some (stop.Broken number kind)) first = first ≡ Some (record { number = number; kind = kind })
Stops (Some stop.Memory) first = ⊤

-- This is kept of the lines that were given, by a reader with these rules: which lines end the reading, which rule a
-- line breaks behind others, and what is kept of lines that break none.
pub record IsKeptBy {K P : Type 0} (ends : Bool → LogicalLine → Bool)
    (fault : List LogicalLine → LogicalLine → Option K) (keeps : P → List LogicalLine → Type 0)
    (is_begun is_ended : Bool) (stopped : Option (Stop K)) (parts : P) (lines : List LogicalLine) : Type 0 where
  pub stop : Stops stopped (first_fault_by fault [] (lines_until ends lines))
  pub begun : stopped ≡ None → is_begun ≡ not (is_first lines)
  pub ended : stopped ≡ None → is_ended ≡ has_end ends lines
  pub kept : stopped ≡ None → keeps parts (lines_until ends lines)
