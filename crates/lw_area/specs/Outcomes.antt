-- What a run comes to.
use Rattle.std.specs.Prelude.{◌≡◌, ◌≤◌, ℕ, Bool, List, [], Option, Result, Ok, Err, IfOk, codes}
use Rattle.lw_io.specs.declared.file.File.{File}
use Rattle.lw_genlib.specs.Cells.{CellParts}
use Rattle.lw_blif.specs.declared.parsed.Parsed.{Parsed}
use Rattle.lw_netlist.specs.Plain.{IsOver}
use Rattle.lw_mapped.specs.Texts.{HasGateClasses, IsFramed, mapped_text}
use Rattle.lw_files.specs.Reading.{Known}
use Rattle.lw_check.specs.declared.verdict.Verdict.TheVariants as verdict
use Rattle.lw_map.specs.declared.fault.MapFault.{MapFault}
use Rattle.lw_map.specs.declared.mapping.CertifiedNetlist.{CertifiedNetlist}
use Rattle.lw_top.specs.Outcome.{IsCutShort, IsDone}
use Rattle.lw_top.specs.Telling.{Told}
use Rattle.lw_joined.specs.declared.choices.Joined.{Joined}
use Rattle.lw_joined.specs.Choices.{IsJoined}
use Rattle.lw_area.specs.declared.mapping.Made.{Made}
use Rattle.lw_area.specs.declared.outcome.Answer.{Answer}
use Rattle.lw_area.specs.declared.outcome.Ending.{Ending}
use Rattle.lw_area.specs.declared.outcome.Ending.TheVariants.{Done, Mapped, WriteFault, Refused}
use Rattle.lw_area.specs.declared.refusal.Refusal.{Refusal}
use Rattle.lw_area.specs.declared.refusal.Refusal.TheVariants as refusal
use Rattle.lw_area.specs.declared.sources.Sources.{Sources}
use Rattle.lw_area.specs.Answers.{IsFaultOf, IsTaskAnswer}
use Rattle.lw_area.specs.Checks.{IsVerdictOf}
use Rattle.lw_area.specs.Pages.{usage_text, version_text}
use Rattle.lw_area.specs.Recovered.{IsAskedFor, IsRecovered, IsRecoveredText}
use Rattle.lw_area.specs.Refusals.{notes_lines, refusal_line, status_of, unwritten_line, wrong_line}
use Rattle.lw_area.specs.Sources.{HasReason}
use Rattle.lw_area.specs.Spaces.{space_of}
use Rattle.lw_area.specs.Words.{Asked, Settings, Task, WrongWord, mapping, checking, usage, version}

-- Answers.

-- a netlist that fits the settings, with its certificate where it is asked for, by whatever links the graph is of
pub record IsMade (settings : Settings) (cells : List CellParts) (model : Parsed) (j : Joined)
    (made : CertifiedNetlist) : Type 0 where
  pub each : (is : IsJoined model.network j) → (recovered : IsRecovered settings cells model.network
      (space_of model.network j is) model.starts made.netlist) × IsAskedFor cells model.starts
      recovered.matches.graph recovered.matches.gates settings.certified made.certificate
  pub over : IsOver cells made.netlist
  pub one_each : HasGateClasses made.netlist made.certificate

abbrev pub made_text : Sources → Made → List ℕ
made_text s m = mapped_text s.library m.mapped.netlist s.model.frame s.model.starts m.mapped.certificate

-- its parts fit each other, so that it can be written
pub record FitsSources (s : Sources) (m : Made) : Type 0 where
  pub over : IsOver s.library m.mapped.netlist
  pub framed : IsFramed m.mapped.netlist s.model.frame s.model.starts
  pub one_each : HasGateClasses m.mapped.netlist m.mapped.certificate

-- what the files that were read come to
abbrev pub IsMadeOf : Settings → Sources → Made → Type 0
IsMadeOf settings s m = IsRecoveredText settings s.library s.model s.further.items (made_text s m) × FitsSources s m

abbrev pub IsMapFaultOf : Settings → Sources → MapFault → Type 0
IsMapFaultOf settings s fault = IsFaultOf settings s.library s.model s.further.items fault

abbrev pub answer_text : Answer → List ℕ
answer_text a = made_text a.sources a.made

abbrev pub CanBeWritten : Answer → Type 0
CanBeWritten a = FitsSources a.sources a.made

abbrev pub Gives : Settings → Sources → Result Answer Refusal → Type 0
Gives settings s (Ok a) = IsRecoveredText settings s.library s.model s.further.items (answer_text a) × CanBeWritten a
Gives settings s (Err (refusal.Unmapped fault)) = IsMapFaultOf settings s fault
Gives settings s (Err other) = ⊥

abbrev pub ComesTo : Option (List File) → ℕ → ℕ → Task → Result Answer Refusal → Type 0
ComesTo told before now task (Ok a) = Known told (IsTaskAnswer task) (Ok (answer_text a))
ComesTo told before now task (Err refused) = HasReason told before now (IsTaskAnswer task) refused

-- A task was answered or refused, and the files stay.
pub record Responds {F : Type 0} (told : F → Option (List File)) (faults : F → ℕ) (old new : F) (task : Task)
    (result : Result Answer Refusal) : Type 0 where
  pub files : told new ≡ told old
  pub later : faults old ≤ faults new
  pub comes : ComesTo (told old) (faults old) (faults new) task result
  pub written : IfOk result CanBeWritten

-- Endings.

-- the whole page was written, or the stream failed behind a prefix
abbrev pub WritesPage : {O : Type 0} → (O → Option (List ℕ)) → (O → Bool) → (O → ℕ) → O → O → List ℕ → Ending
    → Type 0
WritesPage taken is_finished faults old new text Done = IsDone taken is_finished old new text
WritesPage taken is_finished faults old new text WriteFault = IsCutShort taken faults old new text
WritesPage taken is_finished faults old new text other = ⊥

-- the same for the text of a netlist, beside which there are notes
abbrev pub WritesText : {O : Type 0} → (O → Option (List ℕ)) → (O → Bool) → (O → ℕ) → O → O → List ℕ → Ending
    → Type 0
WritesText taken is_finished faults old new text (Mapped notes) = IsDone taken is_finished old new text
WritesText taken is_finished faults old new text WriteFault = IsCutShort taken faults old new text
WritesText taken is_finished faults old new text other = ⊥

-- what is written where this is asked for
abbrev pub IsTextFor : Option (List File) → Asked → List ℕ → Type 0
IsTextFor told usage text = text ≡ usage_text
IsTextFor told version text = text ≡ version_text
IsTextFor told (mapping task) text = Known told (IsTaskAnswer task) (Ok text)
IsTextFor told (checking task mapped) text =
    Known told (IsVerdictOf task mapped) (Ok verdict.Yes) × (text ≡ codes "yes\n")

-- there is a reason to refuse a task; a page is not refused
abbrev pub IsRefusedFor : Option (List File) → ℕ → ℕ → Asked → Refusal → Type 0
IsRefusedFor told before now (mapping task) refused = HasReason told before now (IsTaskAnswer task) refused
IsRefusedFor told before now (checking task mapped) (refusal.No reason) =
    Known told (IsVerdictOf task mapped) (Ok (verdict.No reason))
IsRefusedFor told before now (checking task mapped) refused =
    HasReason told before now (IsVerdictOf task mapped) refused
IsRefusedFor told before now page refused = ⊥

-- The whole text of what was asked for went out, with notes where it is a netlist, or the stream failed behind a prefix
-- of one; or there is a reason to refuse, and nothing went out.
abbrev pub Meets : {O : Type 0} → Option (List File) → ℕ → ℕ → (O → Option (List ℕ)) → (O → Bool) → (O → ℕ) → O → O
    → Asked → Ending → Type 0
Meets told before now taken is_finished faults old new (mapping task) Done = ⊥
Meets told before now taken is_finished faults old new (mapping task) (Mapped notes) =
    (text : List ℕ) × IsTextFor told (mapping task) text × IsDone taken is_finished old new text
Meets told before now taken is_finished faults old new asked Done =
    (text : List ℕ) × IsTextFor told asked text × IsDone taken is_finished old new text
Meets told before now taken is_finished faults old new asked (Mapped notes) = ⊥
Meets told before now taken is_finished faults old new asked WriteFault =
    (text : List ℕ) × IsTextFor told asked text × IsCutShort taken faults old new text
Meets told before now taken is_finished faults old new asked (Refused refused) =
    IsRefusedFor told before now asked refused × (new ≡ old)

-- What was asked for was served; the files stay, and no count of faults falls.
pub record Serves {O : Type 0} (told told' : Option (List File)) (before now : ℕ) (taken : O → Option (List ℕ))
    (is_finished : O → Bool) (faults : O → ℕ) (old new : O) (asked : Asked) (ending : Ending) : Type 0 where
  pub meets : Meets told before now taken is_finished faults old new asked ending
  pub files : told' ≡ told
  pub read : before ≤ now
  pub written : faults old ≤ faults new

abbrev pub ending_status : Ending → ℕ
ending_status Done = 0
ending_status (Mapped notes) = 0
ending_status WriteFault = 7
ending_status (Refused refused) = status_of refused

-- the lines of an ending, with the words of the task
abbrev pub ending_line : Asked → Ending → List ℕ
ending_line asked Done = []
ending_line asked WriteFault = unwritten_line
ending_line (mapping task) (Mapped notes) = notes_lines task notes
ending_line other (Mapped notes) = []
ending_line (mapping task) (Refused refused) = refusal_line task [] refused
ending_line (checking task mapped) (Refused refused) = refusal_line task mapped refused
ending_line page (Refused refused) = []

-- Some ending has this status: it is what happened, and its line went to err, or a prefix where err failed.
pub record EndsAs {O E : Type 0} (told : Option (List File)) (before now : ℕ) (taken : O → Option (List ℕ))
    (is_finished : O → Bool) (faults : O → ℕ) (old new : O) (err_taken : E → Option (List ℕ)) (err_faults : E → ℕ)
    (err_old err_new : E) (asked : Asked) (status : ℕ) : Type 0 where
  pub ending : Ending
  pub is : status ≡ ending_status ending
  pub meets : Meets told before now taken is_finished faults old new asked ending
  pub line : Told err_taken err_faults err_old err_new (ending_line asked ending)

-- Words that are wrong are told, and nothing else happens.
pub record AreRefused {O E : Type 0} (old new : O) (err_taken : E → Option (List ℕ)) (err_faults : E → ℕ)
    (err_old err_new : E) (wrong : WrongWord) (status : ℕ) : Type 0 where
  pub is : status ≡ 1
  pub untouched : new ≡ old
  pub line : Told err_taken err_faults err_old err_new (wrong_line wrong)

abbrev pub IsTold : {O E : Type 0} → Option (List File) → ℕ → ℕ → (O → Option (List ℕ)) → (O → Bool) → (O → ℕ) → O → O
    → (E → Option (List ℕ)) → (E → ℕ) → E → E → Result Asked WrongWord → ℕ → Type 0
IsTold told before now taken is_finished faults old new err_taken err_faults err_old err_new (Ok asked) status =
    EndsAs told before now taken is_finished faults old new err_taken err_faults err_old err_new asked status
IsTold told before now taken is_finished faults old new err_taken err_faults err_old err_new (Err wrong) status =
    AreRefused old new err_taken err_faults err_old err_new wrong status
