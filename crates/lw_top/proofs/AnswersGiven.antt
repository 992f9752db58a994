-- A command's answer, file by file.
use Rattle.std.proofs.Common.{◌≡◌, ◌≢◌, ℕ, ◌≤◌, List, Option, Some, Result, Ok, Err, sym, subst}
use Rattle.lw_io.specs.declared.file.File.{File}
use Rattle.lw_io.specs.Files.{bytes_of}
use Rattle.lw_top.specs.declared.answer.Answer.{Answer}
use Rattle.lw_top.specs.declared.refusal.Refusal.{Refusal}
use Rattle.lw_top.specs.declared.refusal.Refusal.TheVariants.{Words, Faulty, Memory}
use Rattle.lw_top.specs.declared.refusal.Which.{Which}
use Rattle.lw_files.specs.declared.fault.FileFault.TheVariants as file_fault
use Rattle.lw_files.specs.Steps.{followed_by}
use Rattle.lw_top.specs.Steps.{Step}
use Rattle.lw_top.specs.Words.{Command}
use Rattle.lw_top.specs.Answers.{IsFileOf, IsReached, IsCommandAnswer}
use Rattle.lw_files.specs.Reading.{Known}
use Rattle.lw_top.specs.Reading.{HasReason, Blames, Reaches}
use Rattle.lw_top.specs.Answered.{Says, IsAnswered, Responds, Gives}
use Rattle.lw_files.proofs.Steps.{answered}
use Rattle.lw_top.proofs.Steps.{refused_later}

-- what is known at a file's turn
abbrev pub Turn : Option (List File) → Command → Which → Type 0
Turn told command w = IsFileOf command w × ((files : List File) → told ≡ Some files → IsReached command w (bytes_of files))

module _ (told : Option (List File)) (before now : ℕ) (command : Command) where
  -- a file's turn came, and it is refused
  reaches : (w : Which) (e : Refusal) → Blames w e → Turn told command w → Reaches told command e
  reaches w (Faulty v file_fault.Unread) b turn = subst (λ (u : Which). Turn told command u) (sym b) turn
  reaches w other b turn = tt

  -- a file is refused
  pub file_refused : (w : Which) (e : Refusal) → Blames w e → e ≢ Words → Turn told command w → HasReason told before now (IsCommandAnswer command) e → IsAnswered told before now command (Err e)
  file_refused w e b not_words turn reason = record { says = reason; reached = reaches w e b turn; not_words = not_words; written = tt }

  -- What reads no file answers.
  given_reaches : (step : Step (List ℕ)) (e : Refusal) → Gives step (Err e) → Reaches told command e
  given_reaches step (Faulty w fault) g = absurd g
  given_reaches step other g = tt

  given_words : (step : Step (List ℕ)) (e : Refusal) → Gives step (Err e) → e ≢ Words
  given_words step Words g = absurd g
  given_words step other g = λ is. cc

-- What reads no file has a reason where it refuses.
pub given_reason : (told : Option (List File)) (before now : ℕ) (step : Step (List ℕ)) (e : Refusal) → Gives step (Err e) → HasReason told before now step e
given_reason told before now step Words g = absurd g
given_reason told before now step (Faulty w fault) g = absurd g
given_reason told before now step Memory g = tt
given_reason told before now step other g = λ files is. g (bytes_of files)

pub given_says : (told : Option (List File)) (before now : ℕ) (step : Step (List ℕ)) (r : Result Answer Refusal) → Gives step r → Says told before now step r
given_says told before now step (Ok a) g = λ text is files known. g.0 text (bytes_of files) is
given_says told before now step (Err e) g = given_reason told before now step e g

-- One step after another.
module _ {A : Type 0} (told : Option (List File)) (first : Step A) (next : A → Step (List ℕ)) where
  pub says_later : (before mid now : ℕ) (x : A) (r : Result Answer Refusal) → before ≤ mid → Known told first (Ok x) → Says told mid now (next x) r → Says told before now (followed_by first next) r
  says_later before mid now x (Ok a) le known says = λ text is. answered told first next x (Ok text) known (says text is)
  says_later before mid now x (Err e) le known says = refused_later told first next before mid now x e le known says

-- what reads no file ends the command
pub ends : (told : Option (List File)) (before now : ℕ) (command : Command) (step : Step (List ℕ)) (r : Result Answer Refusal) → Gives step r → Says told before now (IsCommandAnswer command) r → IsAnswered told before now command r
ends told before now command step (Ok a) g says = record { says = says; reached = tt; not_words = tt; written = g.1 }
ends told before now command step (Err e) g says = record { says = says; reached = given_reaches told before now command step e g; not_words = given_words told before now command step e g; written = tt }

-- a command is answered, and the files stay
pub responds : {F : Type 0} {told : F → Option (List File)} {faults : F → ℕ} {old new : F} {command : Command} {r : Result Answer Refusal} → told new ≡ told old → faults old ≤ faults new → IsAnswered (told old) (faults old) (faults new) command r → Responds told faults old new command r
responds files later answered = record { answered = answered; later = later; files = files }
