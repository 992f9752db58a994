-- What the words come to over files.
use Rattle.std.specs.Prelude.{◌≡◌, ◌<◌, ℕ, List, Ok, Err, Some, slice_get, ⊤}
use Rattle.lw_pool.specs.declared.id.NetId.{NetId}
use Rattle.lw_fixed.specs.declared.micro.Micro.{Micro}
use Rattle.lw_laws.specs.Headline.{HasNoCoverOf}
use Rattle.lw_net.specs.Networks.{NetworkParts, name_in}
use Rattle.lw_genlib.specs.Cells.{CellParts}
use Rattle.lw_genlib.specs.Tables.{timing_of}
use Rattle.lw_pattern.specs.Libraries.{library_patterns}
use Rattle.lw_blif.specs.declared.parsed.Parsed.{Parsed}
use Rattle.lw_map.specs.Faults.{IsChoiceFault}
use Rattle.lw_map.specs.declared.fault.MapFault.{MapFault}
use Rattle.lw_map.specs.declared.fault.MapFault.TheVariants.{NoCover, Memory}
use Rattle.lw_area.specs.declared.refusal.Refusal.TheVariants.{Unmapped}
use Rattle.lw_area.specs.declared.sources.Further.{Further}
use Rattle.lw_area.specs.Recovered.{IsRecoveredText, IsSpaceOf, Space, form_in, listing_in}
use Rattle.lw_area.specs.Sources.{ReadsAll}
pub use Rattle.lw_area.specs.Sources.{Step}
use Rattle.lw_area.specs.Words.{Settings, Task}
pub use Rattle.lw_area.specs.Sources.{HasReason, in_library, in_network}

-- no cover by the library is of a tree that the rules and the links derive for the output
abbrev pub IsUncoveredIn : Settings → List CellParts → NetworkParts → Space → List Micro → NetId → Type 0
IsUncoveredIn settings cells net space starts output =
    HasNoCoverOf settings.options.mode settings.options.width (listing_in settings space).signals
    (library_patterns cells) (timing_of cells starts) (form_in settings net output.0)

-- The name is that of the first output of the network that has no cover, over a union with others and with links.
pub record LacksCoverIn (settings : Settings) (cells : List CellParts) (model : Parsed) (further : List Further)
    (name : List ℕ) : Type 0 where
  pub space : Space
  pub over : IsSpaceOf settings model.network further space
  pub place : ℕ
  pub output : NetId
  pub at : slice_get model.network.outputs place ≡ Some output
  pub named : name ≡ name_in model.network output
  pub lacks : IsUncoveredIn settings cells model.network space model.starts output
  pub first : (i : ℕ) (other : NetId) → i < place → slice_get model.network.outputs i ≡ Some other
      → IsUncoveredIn settings cells model.network space model.starts other → ⊥

-- Too many forms or splits of the network alone, or the first output without a cover. Running out of memory needs no
-- reason.
abbrev pub IsFaultOf : Settings → List CellParts → Parsed → List Further → MapFault → Type 0
IsFaultOf settings cells model further (NoCover name) = LacksCoverIn settings cells model further name
IsFaultOf settings cells model further Memory = ⊤
IsFaultOf settings cells model further other = IsChoiceFault settings.options model.network other

-- What a library and networks come to: a text of a netlist with little area, or why there is none. Several netlists may
-- be such.
abbrev pub Recovers : Settings → List CellParts → Parsed → List Further → Step (List ℕ)
Recovers settings cells model further files (Ok text) = IsRecoveredText settings cells model further text
Recovers settings cells model further files (Err (Unmapped fault)) = IsFaultOf settings cells model further fault
Recovers settings cells model further files (Err other) = ⊥

-- What a task comes to: the files are read, and the first step that refuses decides.
abbrev pub IsTaskAnswer : Task → Step (List ℕ)
IsTaskAnswer task = ReadsAll task (Recovers task.settings)
