-- What a call that reads files answers.
use Rattle.std.specs.Prelude.{◌≡◌, ◌≢◌, ◌⊎◌, ℕ, ◌≤◌, List, Option, Some, Result, Ok, Err, IfErr}
use Rattle.lw_io.specs.declared.file.File.{File}
use Rattle.lw_io.specs.Causes.{Rose}
use Rattle.lw_io.specs.Files.{bytes_of}
use Rattle.lw_files.specs.declared.fault.FileFault.TheVariants as file_fault
use Rattle.lw_files.specs.Reading.{Known}
use Rattle.lw_top.specs.declared.refusal.Refusal.{Refusal}
use Rattle.lw_top.specs.declared.refusal.Refusal.TheVariants.{Words, Faulty, Memory}
use Rattle.lw_top.specs.declared.refusal.Which.{Which}
use Rattle.lw_top.specs.Steps.{Step}
use Rattle.lw_top.specs.Words.{Command}
use Rattle.lw_top.specs.Answers.{IsFileOf, IsReached}

-- Why a call refused: a file was not read because the count of faults rose, or because known files lack it.
abbrev pub HasReason : {A : Type 0} → Option (List File) → ℕ → ℕ → Step A → Refusal → Type 0
HasReason told before now step (Faulty w file_fault.Unread) =
    Rose before now
    ⊎ ((files : List File) × (told ≡ Some files) × step (bytes_of files) (Err (Faulty w file_fault.Unread)))
-- running out of memory needs no reason
HasReason told before now step Memory = Unit {0}
HasReason told before now step other = Known told step (Err other)

-- What a call answered, seen by view, is what the step says of the files, where they are known.
abbrev pub Reads : {X A : Type 0} → (X → A) → Option (List File) → ℕ → ℕ → Step A → Result X Refusal → Type 0
Reads view told before now step (Ok x) = Known told step (Ok (view x))
Reads view told before now step (Err e) = HasReason told before now step e

-- a file that was not read is this one
abbrev pub Blames : Which → Refusal → Type 0
Blames which (Faulty w file_fault.Unread) = w ≡ which
Blames which other = Unit {0}

-- A call that reads one file: what it answers is what the step says, words are not refused, and no other file is
-- blamed. The files stay.
pub record ReadsFile {X A : Type 0} (view : X → A) {F : Type 0} (told : F → Option (List File)) (faults : F → ℕ)
    (old new : F) (which : Which) (step : Step A) (result : Result X Refusal) : Type 0 where
  pub files : told new ≡ told old
  pub later : faults old ≤ faults new
  pub not_words : IfErr result (λ e. e ≢ Words)
  pub blames : IfErr result (Blames which)
  pub reads : Reads view (told old) (faults old) (faults new) step result

-- A file that was not read is one of the command's, and its turn had come: over known files each file that the command
-- reads before it is there, and within its limit and its grammar.
abbrev pub Reaches : Option (List File) → Command → Refusal → Type 0
Reaches told command (Faulty w file_fault.Unread) =
    IsFileOf command w × ((files : List File) → told ≡ Some files → IsReached command w (bytes_of files))
Reaches told command other = Unit {0}
