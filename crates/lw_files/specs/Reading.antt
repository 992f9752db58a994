-- What a call that reads a file answers.
use Rattle.std.specs.Prelude.{◌≡◌, ◌⊎◌, ℕ, ◌<◌, ◌≤◌, List, ◌++◌, length, Option, Some, Result, Ok, Err, Bool, IsTrue}
use Rattle.std.specs.Prelude.{IfSome, MatchOption, vec_len}
use Rattle.std.specs.Global.{Vec}
use Rattle.std.specs.Option.{ForSome}
use Rattle.std.specs.Io.KnownBytes.{Consumes, IsAtEnd}
use Rattle.lw_io.specs.declared.file.File.{File}
use Rattle.lw_io.specs.Causes.{Rose}
use Rattle.lw_io.specs.Files.{bytes_of}
use Rattle.lw_words.specs.Limits.{most_bytes}
use Rattle.lw_files.specs.declared.fault.FileFault.{FileFault}
use Rattle.lw_files.specs.declared.fault.FileFault.TheVariants.{Unread, Memory}
use Rattle.lw_files.specs.Steps.{Files, StepTo}
use Rattle.lw_files.specs.Sources.{FileStep}

-- n bytes were read and added to the text: none only where the file ends, or where there is no room
pub record ReadsPiece (left rest : Option (List ℕ)) (old new : List ℕ) (room n : ℕ) : Type 0 where
  pub piece : List ℕ
  pub count : length piece ≡ n
  pub within : n ≤ room
  pub added : new ≡ old ++ piece
  pub read : Consumes left rest piece
  pub end : n ≡ 0 → 0 < room → IsAtEnd rest

-- a file stays open, all files stay, and no count of faults falls
pub record StaysOpen (told told' : Option (List File)) (before now : ℕ) (open_now : Bool) : Type 0 where
  pub files : told' ≡ told
  pub later : before ≤ now
  pub is_open : IsTrue open_now

-- the text is all that was left of a file, or it is none where that was too long
pub record IsTextLeft (left : Option (List ℕ)) (text : Option (Vec ℕ)) : Type 0 where
  pub whole : ForSome left
      (λ bytes. MatchOption text (most_bytes < length bytes)
      (λ (v : Vec ℕ). (length bytes ≤ most_bytes) × (v.items ≡ bytes)))
  pub few : IfSome text (λ (v : Vec ℕ). vec_len v ≤ most_bytes)

-- Over known files the step has this outcome.
abbrev pub Known : {E A : Type 0} → Option (List File) → StepTo E A → Result A E → Type 0
Known told step outcome = (files : List File) → told ≡ Some files → step (bytes_of files) outcome

-- Why a file is refused: it was not read because the count of faults rose, or because known files lack it.
abbrev pub HasReason : {A : Type 0} → Option (List File) → ℕ → ℕ → FileStep A → FileFault → Type 0
HasReason told before now step Unread =
    Rose before now ⊎ ((files : List File) × (told ≡ Some files) × step (bytes_of files) (Err Unread))
-- running out of memory needs no reason
HasReason told before now step Memory = Unit {0}
HasReason told before now step other = Known told step (Err other)

-- What a call answered, seen by view, is what the step says of the files, where they are known.
abbrev pub Reads : {X A : Type 0} → (X → A) → Option (List File) → ℕ → ℕ → FileStep A → Result X FileFault → Type 0
Reads view told before now step (Ok x) = Known told step (Ok (view x))
Reads view told before now step (Err e) = HasReason told before now step e

-- A call that reads one file: what it answers is what the step says. The files stay.
pub record ReadsFile {X A : Type 0} (view : X → A) {F : Type 0} (told : F → Option (List File)) (faults : F → ℕ)
    (old new : F) (step : FileStep A) (result : Result X FileFault) : Type 0 where
  pub files : told new ≡ told old
  pub later : faults old ≤ faults new
  pub reads : Reads view (told old) (faults old) (faults new) step result

-- What a text says is what the step says, whatever the files; running out of memory needs no reason, and it is no fault
-- of the text that its file was not read or is too long.
abbrev pub Comes : {X A : Type 0} → (X → A) → FileStep A → Result X FileFault → Type 0
Comes view step (Ok x) = (files : Files) → step files (Ok (view x))
Comes view step (Err Memory) = Unit {0}
Comes view step (Err Unread) = ⊥
Comes view step (Err other) = (files : Files) → step files (Err other)
