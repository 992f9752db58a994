-- What each outcome of a run means.
use Rattle.std.specs.Prelude.{◌≡◌, ◌≤◌, ℕ, Bool, true, List, Option, Some, Result, Ok}
use Rattle.std.specs.Io.KnownBytes.{Appends}
use Rattle.lw_io.specs.declared.file.File.{File}
use Rattle.lw_io.specs.declared.failed.Failed.{Failed}
use Rattle.lw_io.specs.Causes.{Rose}
use Rattle.lw_io.specs.Moves.{AppendsPrefix}
use Rattle.lw_io.specs.Waitings.{IsTaken}
use Rattle.lw_top.specs.declared.answer.Answer.{Answer}
use Rattle.lw_top.specs.Named.{IsTextOf}
use Rattle.lw_top.specs.Steps.{Step}
use Rattle.lw_top.specs.Answers.{status_of, IsAnswerTo}
use Rattle.lw_top.specs.Words.{Command}
use Rattle.lw_files.specs.Reading.{Known}
use Rattle.lw_top.specs.Reading.{HasReason, Reaches}
use Rattle.lw_top.specs.declared.outcome.Outcome.{Outcome}
use Rattle.lw_top.specs.declared.outcome.Outcome.TheVariants.{Done, WriteFault, Refused}

-- the whole text was taken, and the stream is finished
pub record IsDone {O : Type 0} (taken : O → Option (List ℕ)) (is_finished : O → Bool) (old new : O)
    (text : List ℕ) : Type 0 where
  pub grown : Appends (taken old) (taken new) text
  pub finished : is_finished new ≡ true

-- the stream failed, and a prefix of the text was taken
pub record IsCutShort {O : Type 0} (taken : O → Option (List ℕ)) (faults : O → ℕ) (old new : O)
    (text : List ℕ) : Type 0 where
  pub grown : AppendsPrefix (taken old) (taken new) text
  pub cause : Rose (faults old) (faults new)

-- A text of the answer was taken, or a part of it where the stream failed.
pub record WritesText (start : Option (List ℕ)) (count : ℕ) (taken : Option (List ℕ)) (faults : ℕ) (answer : Answer)
    (result : Result (Unit {0}) Failed) : Type 0 where
  pub text : List ℕ
  pub is : IsTextOf answer text
  pub taken_is : IsTaken start count taken faults text result

-- a text of the answer was written, or a part of it
abbrev pub WritesAnswer : {O : Type 0} → (O → Option (List ℕ)) → (O → Bool) → (O → ℕ) → O → O → Answer → Outcome
    → Type 0
WritesAnswer taken is_finished faults old new answer Done =
    (text : List ℕ) × IsTextOf answer text × IsDone taken is_finished old new text
WritesAnswer taken is_finished faults old new answer WriteFault =
    (text : List ℕ) × IsTextOf answer text × IsCutShort taken faults old new text
WritesAnswer taken is_finished faults old new answer (Refused r) = ⊥

-- the text that the definition gives was written, or a part of it; or there is a reason to refuse, and the stream is as
-- it was
abbrev pub Meets : {O : Type 0} → Option (List File) → ℕ → ℕ → (O → Option (List ℕ)) → (O → Bool) → (O → ℕ) → O → O
    → Step (List ℕ) → Outcome → Type 0
Meets told before now taken is_finished faults old new answer Done =
    (text : List ℕ) × Known told answer (Ok text) × IsDone taken is_finished old new text
Meets told before now taken is_finished faults old new answer WriteFault =
    (text : List ℕ) × Known told answer (Ok text) × IsCutShort taken faults old new text
Meets told before now taken is_finished faults old new answer (Refused r) =
    HasReason told before now answer r × (new ≡ old)

-- where a file was not read its turn had come
abbrev pub IsReachedBy : Option (List File) → Option Command → Outcome → Type 0
IsReachedBy told (Some command) (Refused r) = Reaches told command r
IsReachedBy told command outcome = Unit {0}

-- What a command comes to: its answer is written, or refused; the files stay, and no count of faults falls.
pub record Serves {O : Type 0} (told told' : Option (List File)) (before now : ℕ) (taken : O → Option (List ℕ))
    (is_finished : O → Bool) (faults : O → ℕ) (old new : O) (command : Option Command)
    (outcome : Outcome) : Type 0 where
  pub meets : Meets told before now taken is_finished faults old new (IsAnswerTo command) outcome
  pub reached : IsReachedBy told command outcome
  pub files : told' ≡ told
  pub read : before ≤ now
  pub written : faults old ≤ faults new

-- the exit status
abbrev pub outcome_status : Outcome → ℕ
outcome_status Done = 0
outcome_status WriteFault = 7
outcome_status (Refused r) = status_of r
