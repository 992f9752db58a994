-- What a run comes to.
use Rattle.std.specs.Prelude.{◌≡◌, ◌<◌, ◌≤◌, ℕ, Bool, true, ⊤, List, [], ◌∷◌, length, Option, Some, None, is_some}
use Rattle.std.specs.Prelude.{slice_index_or, slice_get, Result, Ok, Err, codes}
use Rattle.std.specs.Io.KnownBytes.{Appends}
use Rattle.lw_io.specs.declared.file.File.{File}
use Rattle.lw_io.specs.Causes.{Rose}
use Rattle.lw_io.specs.Files.{bytes_of}
use Rattle.lw_io.specs.Moves.{AppendsPrefix}
use Rattle.lw_genlib.specs.Cells.{CellParts}
use Rattle.lw_files.specs.Steps.{Files}
use Rattle.lw_files.specs.Reading as file
use Rattle.lw_equal.specs.declared.answer.Answer.{Answer}
use Rattle.lw_equal.specs.declared.answer.PortFault.{PortFault}
use Rattle.lw_equal_top.specs.declared.source.Source.{Source}
use Rattle.lw_equal_top.specs.declared.fault.Refusal.{Refusal}
use Rattle.lw_equal_top.specs.declared.fault.Refusal.TheVariants.{Library, File as FileAt, Ports, Memory}
use Rattle.lw_equal_top.specs.declared.outcome.Compared.{Compared}
use Rattle.lw_equal_top.specs.declared.outcome.Ending.{Ending}
use Rattle.lw_equal_top.specs.declared.outcome.Ending.TheVariants.{Told, Answered, WriteFault, Refused}
use Rattle.lw_equal_top.specs.Words.{Comparison, Request, help, version, comparing}
use Rattle.lw_equal_top.specs.Sources.{ReadsCells, AreRead, input_names}
use Rattle.lw_equal_top.specs.Reading.{CellsRefused, SourcesRefused}
use Rattle.lw_equal_top.specs.Compared.{IsAnswerFor, HasPortFault}
use Rattle.lw_equal_top.specs.Texts.{answer_text, HasValues}
use Rattle.lw_equal_top.specs.Pages.{help_text, version_text}

-- What the files say: these cells and these sources.
pub record AreSaid (c : Comparison) (files : Files) (cells : List CellParts) (sources : List Source) : Type 0 where
  pub cells_are : ReadsCells c.library files (Ok cells)
  pub sources_are : AreRead (is_some c.library) cells c.files files sources

-- These sources were read, where files are known, and this is a right answer for the first two of them.
pub record IsResult (told : Option (List File)) (c : Comparison) (sources : List Source)
    (answer : Answer) : Type 0 where
  pub cells : List CellParts
  pub said : (files : List File) → told ≡ Some files → AreSaid c (bytes_of files) cells sources
  pub right : IsAnswerFor cells sources answer

-- the names of the inputs of the first source
abbrev pub names_in : List Source → List (List ℕ)
names_in [] = []
names_in (source ∷ sources) = input_names source

-- the cells that were read before a file was refused
pub record FileRefused (told : Option (List File)) (before now : ℕ) (c : Comparison) (refusal : Refusal) : Type 0 where
  pub cells : List CellParts
  pub cells_are : file.Known told (ReadsCells c.library) (Ok cells)
  pub reason : SourcesRefused told before now (is_some c.library) cells c.files refusal

-- what was read before ports were found lacking
pub record PortsRefused (told : Option (List File)) (c : Comparison) (fault : PortFault) : Type 0 where
  pub cells : List CellParts
  pub sources : List Source
  pub said : (files : List File) → told ≡ Some files → AreSaid c (bytes_of files) cells sources
  pub lacking : HasPortFault cells sources fault

-- Why there is no answer: the library or a file was not read or has a fault, a port is lacking, or memory ran out.
abbrev pub HasReason : Option (List File) → ℕ → ℕ → Comparison → Refusal → Type 0
HasReason told before now c (Library fault) = CellsRefused told before now c.library (Library fault)
HasReason told before now c (FileAt place fault) = FileRefused told before now c (FileAt place fault)
HasReason told before now c (Ports fault) = PortsRefused told c fault
HasReason told before now c Memory = ⊤

abbrev pub ComparesTo : Option (List File) → ℕ → ℕ → Comparison → Result Compared Refusal → Type 0
ComparesTo told before now c (Ok compared) = IsResult told c compared.sources.items compared.outcome.answer
ComparesTo told before now c (Err refusal) = HasReason told before now c refusal

abbrev pub CanBeSaid : Compared → Type 0
CanBeSaid compared =
    (0 < length compared.sources.items) × HasValues (names_in compared.sources.items) compared.outcome.answer

abbrev pub IfSaid : Result Compared Refusal → Type 0
IfSaid (Ok compared) = CanBeSaid compared
IfSaid (Err refusal) = ⊤

-- The files are compared or refused, and they stay.
pub record Compares {F : Type 0} (told : F → Option (List File)) (faults : F → ℕ) (old new : F) (c : Comparison)
    (result : Result Compared Refusal) : Type 0 where
  pub files : told new ≡ told old
  pub later : faults old ≤ faults new
  pub comes : ComparesTo (told old) (faults old) (faults new) c result
  pub said : IfSaid result

-- the whole text was taken, and the stream is finished
pub record IsDone {O : Type 0} (taken : O → Option (List ℕ)) (is_finished : O → Bool) (old new : O)
    (text : List ℕ) : Type 0 where
  pub grown : Appends (taken old) (taken new) text
  pub finished : is_finished new ≡ true

-- the stream failed, and a prefix of the text was taken
pub record IsCutShort {O : Type 0} (taken : O → Option (List ℕ)) (faults : O → ℕ) (old new : O)
    (text : List ℕ) : Type 0 where
  pub grown : AppendsPrefix (taken old) (taken new) text
  pub cause : Rose (faults old) (faults new)

-- the whole text was written, or the stream failed behind a prefix
abbrev pub WritesOut : {O : Type 0} → (O → Option (List ℕ)) → (O → Bool) → (O → ℕ) → O → O → List ℕ → Ending → Type 0
WritesOut taken is_finished faults old new text WriteFault = IsCutShort taken faults old new text
WritesOut taken is_finished faults old new text other = IsDone taken is_finished old new text

abbrev pub IsToldOr : Ending → Type 0
IsToldOr Told = ⊤
IsToldOr WriteFault = ⊤
IsToldOr other = ⊥

abbrev pub IsAnsweredOr : Compared → Ending → Type 0
IsAnsweredOr compared (Answered same) = same ≡ compared
IsAnsweredOr compared WriteFault = ⊤
IsAnsweredOr compared other = ⊥

-- the text of a result
pub record IsResultText (told : Option (List File)) (c : Comparison) (text : List ℕ) : Type 0 where
  pub sources : List Source
  pub answer : Answer
  pub result : IsResult told c sources answer
  pub is : text ≡ answer_text (names_in sources) answer

-- what is written where this is asked for
abbrev pub IsTextFor : Option (List File) → Request → List ℕ → Type 0
IsTextFor told help text = text ≡ help_text
IsTextFor told version text = text ≡ version_text
IsTextFor told (comparing c) text = IsResultText told c text

-- A page was asked for and went out; or a right answer to the comparison went out; or the stream failed, and a prefix
-- of such a text went out; or there is a reason to refuse the comparison, and the stream is as it was.
abbrev pub Meets : {O : Type 0} → Option (List File) → ℕ → ℕ → (O → Option (List ℕ)) → (O → Bool) → (O → ℕ) → O → O
    → Request → Ending → Type 0
Meets told before now taken is_finished faults old new help Told = IsDone taken is_finished old new help_text
Meets told before now taken is_finished faults old new version Told = IsDone taken is_finished old new version_text
Meets told before now taken is_finished faults old new (comparing c) (Answered compared) =
    IsResult told c compared.sources.items compared.outcome.answer
    × IsDone taken is_finished old new (answer_text (names_in compared.sources.items) compared.outcome.answer)
Meets told before now taken is_finished faults old new (comparing c) (Refused refusal) =
    HasReason told before now c refusal × (new ≡ old)
Meets told before now taken is_finished faults old new request WriteFault =
    (text : List ℕ) × IsTextFor told request text × IsCutShort taken faults old new text
Meets told before now taken is_finished faults old new request other = ⊥

-- What a run that was asked for this came to; the files stay, and no count of faults falls.
pub record Serves {O : Type 0} (told told' : Option (List File)) (before now : ℕ) (taken : O → Option (List ℕ))
    (is_finished : O → Bool) (faults : O → ℕ) (old new : O) (request : Request) (ending : Ending) : Type 0 where
  pub meets : Meets told before now taken is_finished faults old new request ending
  pub files : told' ≡ told
  pub read : before ≤ now
  pub written : faults old ≤ faults new
