-- Completeness: which status and which line known files come to.
use Rattle.std.specs.Prelude.{◌≡◌, ◌≢◌, ◌⊎◌, ℕ, List, [], Option, Result, Ok, Err}
use Rattle.lw_top.specs.declared.refusal.Refusal.{Refusal}
use Rattle.lw_top.specs.declared.refusal.Refusal.TheVariants.{Memory}
use Rattle.lw_top.specs.Answers.{status_in}
use Rattle.lw_top.specs.Words.{Command}
use Rattle.lw_top.specs.Telling.{refusal_line}

-- the line of an answer, which a text has not
abbrev pub answer_line : Option Command → Result (List ℕ) Refusal → List ℕ
answer_line command (Ok text) = []
answer_line command (Err r) = refusal_line command r

-- the status is that of an answer to the command, and its line was told
pub record HasAnswer (answer : Result (List ℕ) Refusal → Type 0) (command : Option Command) (told : List ℕ → Type 0)
    (status : ℕ) : Type 0 where
  pub result : Result (List ℕ) Refusal
  pub is : answer result
  pub status_is : status ≡ status_in result
  pub line : told (answer_line command result)

-- Whatever failed, each status other than 2, 7 and 8 is the answer's, and so is the line. 2 is the answer's too where
-- the shelf did not fail, and 7 comes only where out failed. Where neither failed, the status is the answer's, or
-- memory ran out, which is told.
pub record IsComplete (answer : Result (List ℕ) Refusal → Type 0) (command : Option Command) (told : List ℕ → Type 0)
    (shelf_failed out_failed : Type 0) (status : ℕ) : Type 0 where
  pub decided : status ≢ 2 → status ≢ 7 → status ≢ 8 → HasAnswer answer command told status
  pub unread : status ≡ 2 → (shelf_failed → ⊥) → HasAnswer answer command told status
  pub unwritten : status ≡ 7 → out_failed
  pub unfailed : (shelf_failed → ⊥) → (out_failed → ⊥) → HasAnswer answer command told status ⊎ (status ≡ 8)
  pub memory : status ≡ 8 → told (refusal_line command Memory)
