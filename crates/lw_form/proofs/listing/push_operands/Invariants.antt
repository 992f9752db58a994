use Rattle.std.proofs.Common.{◌≡◌, ◌-◌, ◌++◌, List, ℕ, map, drop, length}
use Rattle.std.specs.List.{AllByRecursion}
use Rattle.lw_laws.specs.Forms.{Form}
use Rattle.lw_form.specs.Listed.{plain_step, plain_steps, adds, StepFits}
use Rattle.lw_form.specs.Tables.{AreBelow}
use Rattle.lw_form.proofs.listing.push_operands.Given as goal

abbrev pub invariant-loop-place : goal.invariant-loop-place
invariant-loop-place l = record {
  steps : (forms : List Form) → plain_steps forms l.steps.items ≡ map (plain_step forms) (adds (drop (length l.ids - l.place) l.ids)) ++ plain_steps forms l.initial.steps.items;
  fit : (count : ℕ) → AreBelow count l.ids → AllByRecursion (StepFits count) l.initial.steps.items → AllByRecursion (StepFits count) l.steps.items;
}
