-- A step of a command: a value for the next step, or a refusal.
use Rattle.lw_files.specs.Steps.{StepTo}
use Rattle.lw_top.specs.declared.refusal.Refusal.{Refusal}

abbrev pub Step : Type 0 → Type 1
Step A = StepTo Refusal A
