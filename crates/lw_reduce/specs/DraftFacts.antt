-- Representatives of the base forms of a draft, and its graph.
use Rattle.std.specs.Prelude.{ℕ, ◌-◌, ◌^◌, ◌<◌, ◌≡◌, Bool, List, length}
use Rattle.lw_laws.specs.Drafts.{IsReduced}
use Rattle.lw_laws.specs.Graphs.{Graph}
use Rattle.lw_reduce.specs.declared.reduction.DraftFacts.{DraftFacts}
use Rattle.lw_reduce.specs.Drafting.{plain_draft}
use Rattle.lw_reduce.specs.Representatives.{AreRepresentatives}
use Rattle.lw_reduce.specs.Settling.{AreSettled}

-- representatives of the base forms of a draft
pub record AreDraftReps (draft : DraftFacts) (reps : List ℕ) : Type 0 where
  pub valid : AreRepresentatives (length reps) draft.nands.items draft.links.items reps
  pub few : length reps < 2 ^ 31
  pub inputs_in : draft.inputs < length reps
  pub few_nands : length draft.nands.items < 2 ^ 32 - 1

-- settled ones
pub record AreSettledReps (draft : DraftFacts) (reps : List ℕ) : Type 0 where
  pub settled : AreSettled (length reps) draft.nands.items draft.links.items reps
  pub few : length reps < 2 ^ 31
  pub inputs_in : draft.inputs < length reps
  pub few_nands : length draft.nands.items < 2 ^ 32 - 1

-- the graph of the draft, whatever the samples of its base forms
abbrev pub IsGraphOf : DraftFacts → List ℕ → Graph → Type 0
IsGraphOf draft reps graph =
    (samples : List Bool) → length samples ≡ length reps
    → IsReduced (plain_draft draft.inputs samples draft.nands.items draft.links.items) graph
