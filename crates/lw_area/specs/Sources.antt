-- The files of a task: a library, a network, and further networks over its inputs.
use Rattle.std.specs.Prelude.{ℕ, suc, ◌≡◌, ◌≤◌, ◌⊎◌, ⊤, IfOk, Bool, List, [], ◌∷◌, Option, Some, Result, Ok, Err, All}
use Rattle.std.specs.Global.{Vec}
use Rattle.std.specs.List.{AllZip}
use Rattle.lw_io.specs.declared.file.File.{File}
use Rattle.lw_io.specs.Causes.{Rose}
use Rattle.lw_io.specs.Files.{bytes_of}
use Rattle.lw_files.specs.declared.fault.FileFault.TheVariants as file_fault
use Rattle.lw_map.specs.declared.fault.MapFault.TheVariants as map_fault
use Rattle.lw_net.specs.Networks.{NetworkParts, input_names}
use Rattle.lw_net.specs.Unions.{ArePlacesIn}
use Rattle.lw_blif.specs.declared.parsed.Parsed.{Parsed}
use Rattle.lw_blif.specs.BlifNetworks.{IsModel}
use Rattle.lw_genlib.specs.Cells.{CellParts, IsLibrary}
use Rattle.lw_files.specs.Reading.{Known}
use Rattle.lw_files.specs.Sources.{FileStep, ReadsLibrary, ReadsModel}
use Rattle.lw_files.specs.Steps.{StepTo, followed_by}
use Rattle.lw_joined.specs.declared.uniting.Other.{Other}
use Rattle.lw_joined.specs.Places.{ArePlacesOf, IsFirstStrange}
use Rattle.lw_joined.specs.Unions.{united}
use Rattle.lw_area.specs.declared.refusal.Refusal.{Refusal}
use Rattle.lw_area.specs.declared.refusal.Refusal.TheVariants as refusal
use Rattle.lw_area.specs.declared.sources.Further.{Further}
use Rattle.lw_area.specs.declared.sources.Sources.{Sources}
use Rattle.lw_area.specs.Words.{Task}

abbrev pub Step : Type 0 → Type 1
Step A = StepTo Refusal A

-- a step that reads the library, one that reads the network, and one that reads a further network
abbrev pub in_library : {A : Type 0} → FileStep A → Step A
in_library step files (Ok x) = step files (Ok x)
in_library step files (Err (refusal.Library fault)) = step files (Err fault)
in_library step files (Err other) = ⊥

abbrev pub in_network : {A : Type 0} → FileStep A → Step A
in_network step files (Ok x) = step files (Ok x)
in_network step files (Err (refusal.Network fault)) = step files (Err fault)
in_network step files (Err other) = ⊥

abbrev pub in_further : {A : Type 0} → ℕ → FileStep A → Step A
in_further place step files (Ok x) = step files (Ok x)
in_further place step files (Err (refusal.Further k fault)) = (k ≡ place) × step files (Err fault)
in_further place step files (Err other) = ⊥

-- each input of a further network stands at its place among names, or the first one that is none of them is told
abbrev pub ArePlaced : List (List ℕ) → ℕ → Parsed → Step Further
ArePlaced names place model files (Ok further) =
    (further.network ≡ model.network) × ArePlacesOf names (input_names model.network) further.places.items
ArePlaced names place model files (Err (refusal.Strange k name)) =
    (k ≡ place) × IsFirstStrange names (input_names model.network) name
ArePlaced names place model files (Err other) = ⊥

abbrev pub is_just : {A : Type 0} → A → Step A
is_just value files (Ok x) = x ≡ value
is_just value files (Err other) = ⊥

-- the file of a further network over inputs with these names
abbrev pub ReadsOne : List (List ℕ) → ℕ → List ℕ → Step Further
ReadsOne names place word =
    followed_by (in_further place (ReadsModel word)) (λ model. ArePlaced names place model)

-- the files of further networks, one after the other from this place on
abbrev pub ReadsFurther : List (List ℕ) → ℕ → List (List ℕ) → Step (List Further)
ReadsFurther names place [] = is_just []
ReadsFurther names place (word ∷ words) =
    followed_by (ReadsOne names place word)
    (λ further. followed_by (ReadsFurther names (suc place) words) (λ rest. is_just (further ∷ rest)))

-- what a union of the network and of some of the further ones is
abbrev pub others_in : List Further → List Other → Type 0
others_in further others =
    AllZip (λ (f : Further) (o : Other). (o.net.now ≡ f.network) × (o.places.now ≡ f.places.items)) further others

pub record IsUnionOf (net : NetworkParts) (further : List Further) (union : NetworkParts) : Type 0 where
  pub others : List Other
  pub are : others_in further others
  pub taken : List Bool
  pub is : union ≡ united net others taken

abbrev pub AreOthersOf : List Further → List Other → Type 0
AreOthersOf further others = others_in further others

-- the places are inputs of a network
abbrev pub IsFurtherTo : ℕ → Further → Type 0
IsFurtherTo inputs f = ArePlacesIn inputs f.network f.places.items

-- the files fit each other
pub record AreSources (s : Sources) : Type 0 where
  pub library : IsLibrary s.library
  pub model : IsModel s.model
  pub further : All (IsFurtherTo s.model.network.inputs) s.further.items

abbrev pub AreSourcesOf : List CellParts → Parsed → List Further → Step Sources
AreSourcesOf cells model further files (Ok s) = (s.library ≡ cells) × (s.model ≡ model) × (s.further.items ≡ further)
AreSourcesOf cells model further files (Err other) = ⊥

-- The library is read, then the network, and then the further ones in order; the first step that refuses decides.
abbrev pub ReadsAll : {A : Type 0} → Task → (List CellParts → Parsed → List Further → Step A) → Step A
ReadsAll task next =
    followed_by (in_library (ReadsLibrary task.library))
    (λ cells. followed_by (in_network (ReadsModel task.network))
    (λ model. followed_by (ReadsFurther (input_names model.network) 0 task.more)
    (λ further. next cells model further)))

abbrev pub IsSourcesOf : Task → Step Sources
IsSourcesOf task = ReadsAll task AreSourcesOf

-- a file was not read because the count of faults rose, or because known files lack it
abbrev pub IsUnread : {A : Type 0} → Option (List File) → ℕ → ℕ → Step A → Refusal → Type 0
IsUnread told before now step refused =
    Rose before now ⊎ ((files : List File) × (told ≡ Some files) × step (bytes_of files) (Err refused))

-- Why a step refuses: a file was not read; running out of memory needs no reason; and over known files any other
-- refusal is the step's.
abbrev pub HasReason : {A : Type 0} → Option (List File) → ℕ → ℕ → Step A → Refusal → Type 0
HasReason told before now step (refusal.Library file_fault.Unread) =
    IsUnread told before now step (refusal.Library file_fault.Unread)
HasReason told before now step (refusal.Network file_fault.Unread) =
    IsUnread told before now step (refusal.Network file_fault.Unread)
HasReason told before now step (refusal.Further place file_fault.Unread) =
    IsUnread told before now step (refusal.Further place file_fault.Unread)
HasReason told before now step (refusal.Mapped file_fault.Unread) =
    IsUnread told before now step (refusal.Mapped file_fault.Unread)
HasReason told before now step (refusal.Library file_fault.Memory) = ⊤
HasReason told before now step (refusal.Network file_fault.Memory) = ⊤
HasReason told before now step (refusal.Further place file_fault.Memory) = ⊤
HasReason told before now step (refusal.Mapped file_fault.Memory) = ⊤
HasReason told before now step (refusal.Unmapped map_fault.Memory) = ⊤
HasReason told before now step other = Known told step (Err other)

-- A step that reads files comes to this; the files stay, and the count of faults does not fall.
abbrev pub ComesTo : {A : Type 0} → Option (List File) → ℕ → ℕ → Step A → Result A Refusal → Type 0
ComesTo told before now step (Ok x) = Known told step (Ok x)
ComesTo told before now step (Err refused) = HasReason told before now step refused

pub record Reads {F A : Type 0} (told : F → Option (List File)) (faults : F → ℕ) (old new : F) (step : Step A)
    (result : Result A Refusal) : Type 0 where
  pub files : told new ≡ told old
  pub later : faults old ≤ faults new
  pub comes : ComesTo (told old) (faults old) (faults new) step result

abbrev pub items_of : Result (Vec Further) Refusal → Result (List Further) Refusal
items_of (Ok further) = Ok further.items
items_of (Err refused) = Err refused

abbrev pub ReadsSources : {F : Type 0} → (F → Option (List File)) → (F → ℕ) → F → F → Task → Result Sources Refusal
    → Type 0
ReadsSources told faults old new task result =
    Reads told faults old new (IsSourcesOf task) result × IfOk result AreSources
