-- Completeness: which status and which line known files come to.
use Rattle.std.specs.Prelude.{◌≡◌, ◌≢◌, ◌⊎◌, ℕ, List, [], Result, Ok, Err}
use Rattle.lw_files.specs.Steps.{Files}
use Rattle.lw_map.specs.declared.fault.MapFault.TheVariants as map_fault
use Rattle.lw_area.specs.declared.refusal.Refusal.{Refusal}
use Rattle.lw_area.specs.declared.refusal.Refusal.TheVariants.{Unmapped}
use Rattle.lw_area.specs.Answers.{IsTaskAnswer}
use Rattle.lw_area.specs.declared.mapping.Notes.{Notes}
use Rattle.lw_area.specs.Refusals.{notes_lines, refusal_line, status_of}
use Rattle.lw_area.specs.Words.{Task}

abbrev pub status_in : Result (List ℕ) Refusal → ℕ
status_in (Ok text) = 0
status_in (Err refusal) = status_of refusal

-- what is said beside an answer was told: notes on a run where it is a text
abbrev pub IsTellingOf : Task → (List ℕ → Type 0) → Result (List ℕ) Refusal → Type 0
IsTellingOf task told (Ok text) = (notes : Notes) × told (notes_lines task notes)
IsTellingOf task told (Err refusal) = told (refusal_line task [] refusal)

-- the status is that of an answer to the task, and its line was told
pub record HasAnswer (task : Task) (files : Files) (told : List ℕ → Type 0) (status : ℕ) : Type 0 where
  pub result : Result (List ℕ) Refusal
  pub is : IsTaskAnswer task files result
  pub status_is : status ≡ status_in result
  pub line : IsTellingOf task told result

-- Whatever failed, each status other than 2, 7 and 8 is an answer's, and so is the line. 2 is an answer's too where the
-- shelf did not fail, and 7 comes only where out failed. Where neither failed, the status is an answer's, or memory ran
-- out, which is told.
pub record IsComplete (task : Task) (files : Files) (told : List ℕ → Type 0) (shelf_failed out_failed : Type 0)
    (status : ℕ) : Type 0 where
  pub decided : status ≢ 2 → status ≢ 7 → status ≢ 8 → HasAnswer task files told status
  pub unread : status ≡ 2 → (shelf_failed → ⊥) → HasAnswer task files told status
  pub unwritten : status ≡ 7 → out_failed
  pub unfailed : (shelf_failed → ⊥) → (out_failed → ⊥) → HasAnswer task files told status ⊎ (status ≡ 8)
  pub memory : status ≡ 8 → told (refusal_line task [] (Unmapped map_fault.Memory))
