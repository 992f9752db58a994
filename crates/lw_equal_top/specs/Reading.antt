-- What calls that read the files of a comparison answer.
use Rattle.std.specs.Prelude.{◌≡◌, ◌<◌, ◌≤◌, ℕ, Bool, List, ⊤, length, slice_get, take, Option, Some, Result, Ok, Err}
use Rattle.std.specs.Global.{Vec}
use Rattle.lw_io.specs.declared.file.File.{File}
use Rattle.lw_io.specs.Files.{bytes_of}
use Rattle.lw_genlib.specs.Cells.{CellParts}
use Rattle.lw_files.specs.Reading as file
use Rattle.lw_equal_top.specs.declared.source.Source.{Source}
use Rattle.lw_equal_top.specs.declared.fault.Refusal.{Refusal}
use Rattle.lw_equal_top.specs.declared.fault.Refusal.TheVariants.{Library, File as FileAt, Ports, Memory}
use Rattle.lw_equal_top.specs.Sources.{ReadsCells, ReadsSource, AreRead}

-- The library was refused: it was not read because the count of faults rose, or the files give the reason.
abbrev pub CellsRefused : Option (List File) → ℕ → ℕ → Option (List ℕ) → Refusal → Type 0
CellsRefused told before now word (Library fault) = file.HasReason told before now (ReadsCells word) fault
CellsRefused told before now word Memory = ⊤
CellsRefused told before now word other = ⊥

abbrev pub CellsOr : Option (List File) → ℕ → ℕ → Option (List ℕ) → Result (List CellParts) Refusal → Type 0
CellsOr told before now word (Ok cells) = file.Known told (ReadsCells word) (Ok cells)
CellsOr told before now word (Err refusal) = CellsRefused told before now word refusal

-- The library was read or refused, and the files stay.
pub record ReadsCellsOf {F : Type 0} (told : F → Option (List File)) (faults : F → ℕ) (old new : F)
    (word : Option (List ℕ)) (result : Result (List CellParts) Refusal) : Type 0 where
  pub files : told new ≡ told old
  pub later : faults old ≤ faults new
  pub reads : CellsOr (told old) (faults old) (faults new) word result

-- The file at this place was refused, with its reason, and each before it was read.
pub record IsRefused (told : Option (List File)) (known : Bool) (cells : List CellParts) (names : List (List ℕ))
    (place : ℕ) (name : List ℕ) : Type 0 where
  pub at : slice_get names place ≡ Some name
  pub earlier : (files : List File) → told ≡ Some files
      → (sources : List Source) × AreRead known cells (take place names) (bytes_of files) sources

abbrev pub SourcesRefused : Option (List File) → ℕ → ℕ → Bool → List CellParts → List (List ℕ) → Refusal → Type 0
SourcesRefused told before now known cells names (FileAt place fault) =
    (name : List ℕ) × IsRefused told known cells names place name
    × file.HasReason told before now (ReadsSource known cells name) fault
SourcesRefused told before now known cells names Memory = ⊤
SourcesRefused told before now known cells names other = ⊥

abbrev pub SourcesOr : Option (List File) → ℕ → ℕ → Bool → List CellParts → List (List ℕ) → Result (Vec Source) Refusal
    → Type 0
SourcesOr told before now known cells names (Ok sources) =
    ((files : List File) → told ≡ Some files → AreRead known cells names (bytes_of files) sources.items)
    × (length sources.items ≡ length names)
SourcesOr told before now known cells names (Err refusal) = SourcesRefused told before now known cells names refusal

-- All files were read or the first that says nothing was refused, and the files stay.
pub record ReadsSources {F : Type 0} (told : F → Option (List File)) (faults : F → ℕ) (old new : F) (known : Bool)
    (cells : List CellParts) (names : List (List ℕ)) (result : Result (Vec Source) Refusal) : Type 0 where
  pub files : told new ≡ told old
  pub later : faults old ≤ faults new
  pub reads : SourcesOr (told old) (faults old) (faults new) known cells names result
