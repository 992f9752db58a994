-- What a command comes to when its files are read.
use Rattle.std.specs.Prelude.{◌≡◌, ◌≢◌, ◌≤◌, ℕ, List, length, Option, Result, Ok, Err, IfErr, IfOk}
use Rattle.lw_io.specs.declared.file.File.{File}
use Rattle.lw_netlist.specs.Plain.{IsOver}
use Rattle.lw_mapped.specs.Texts.{IsFramed, HasGateClasses}
use Rattle.lw_lut.specs.Texts.{IsFramed as IsTableFramed}
use Rattle.lw_report.specs.Made.{IsTimingFor, places_of}
use Rattle.lw_top.specs.declared.answer.Answer.{Answer}
use Rattle.lw_top.specs.declared.answer.Answer.TheVariants as answer
use Rattle.lw_top.specs.declared.refusal.Refusal.{Refusal}
use Rattle.lw_top.specs.declared.refusal.Refusal.TheVariants.{Words, Faulty, Memory}
use Rattle.lw_files.specs.Steps.{Files}
use Rattle.lw_top.specs.Steps.{Step}
use Rattle.lw_top.specs.Words.{Command}
use Rattle.lw_top.specs.Answers.{IsCommandAnswer}
use Rattle.lw_files.specs.Reading.{Known}
use Rattle.lw_top.specs.Reading.{HasReason, Reaches}
use Rattle.lw_top.specs.Named.{AreReadVectors, IsTextOf}

-- What was answered can be written: its parts fit each other.
abbrev pub CanBeWritten : Answer → Type 0
CanBeWritten (answer.Mapping library netlist frame starts certificate) =
    IsOver library netlist × IsFramed netlist frame starts × HasGateClasses netlist certificate
CanBeWritten (answer.Times library netlist timing) = IsOver library netlist × IsTimingFor library netlist timing
CanBeWritten (answer.Values network vectors sim) =
    (places_of sim ≡ length network.names) × AreReadVectors network.inputs vectors
CanBeWritten (answer.GateValues library netlist vectors sim) =
    IsOver library netlist × (places_of sim ≡ length netlist.names) × AreReadVectors netlist.inputs vectors
CanBeWritten (answer.Verilog library netlist) = IsOver library netlist
CanBeWritten (answer.Tables net frame) = IsTableFramed net frame
CanBeWritten other = Unit {0}

-- Each text of the answer is what the step says of the files, where they are known; or there is a reason to refuse.
abbrev pub Says : Option (List File) → ℕ → ℕ → Step (List ℕ) → Result Answer Refusal → Type 0
Says told before now step (Ok a) = (text : List ℕ) → IsTextOf a text → Known told step (Ok text)
Says told before now step (Err e) = HasReason told before now step e

-- The command's answer, or why there is none: where a file was not read its turn had come, and the words were right.
pub record IsAnswered (told : Option (List File)) (before now : ℕ) (command : Command)
    (result : Result Answer Refusal) : Type 0 where
  pub says : Says told before now (IsCommandAnswer command) result
  pub reached : IfErr result (Reaches told command)
  pub not_words : IfErr result (λ e. e ≢ Words)
  pub written : IfOk result CanBeWritten

-- A command was answered, and the files stay.
pub record Responds {F : Type 0} (told : F → Option (List File)) (faults : F → ℕ) (old new : F) (command : Command)
    (result : Result Answer Refusal) : Type 0 where
  pub answered : IsAnswered (told old) (faults old) (faults new) command result
  pub later : faults old ≤ faults new
  pub files : told new ≡ told old

-- What a step that reads no file answers: its texts are what the step says, whatever the files. Running out of memory
-- needs no reason, and of the words and the files nothing is refused.
abbrev pub Gives : Step (List ℕ) → Result Answer Refusal → Type 0
Gives step (Ok a) = ((text : List ℕ) (files : Files) → IsTextOf a text → step files (Ok text)) × CanBeWritten a
Gives step (Err Memory) = Unit {0}
Gives step (Err Words) = ⊥
Gives step (Err (Faulty w fault)) = ⊥
Gives step (Err other) = (files : Files) → step files (Err other)

-- what a step that reads no file answers, where the answer is made of what the step computed
abbrev pub GivesBy : {X : Type 0} → (X → Answer) → Step (List ℕ) → Result X Refusal → Type 0
GivesBy wrap step (Ok x) = Gives step (Ok (wrap x))
GivesBy wrap step (Err e) = Gives step (Err e)
