-- The verdict on the netlist of a file.
use Rattle.std.specs.Prelude.{ℕ, ◌≡◌, List, Option, Result, Ok, Err}
use Rattle.lw_pool.specs.declared.id.ClassId.{ClassId}
use Rattle.lw_pool.specs.Numbers.{numbers}
use Rattle.lw_io.specs.declared.file.File.{File}
use Rattle.lw_laws.specs.Classes.{IsGraphOf}
use Rattle.lw_laws.specs.Graphs.{Graph}
use Rattle.lw_laws.specs.MappedNetlists.{form_classes}
use Rattle.lw_net.specs.Networks.{ports_of}
use Rattle.lw_genlib.specs.Cells.{CellParts}
use Rattle.lw_pattern.specs.Libraries.{library_patterns}
use Rattle.lw_blif.specs.declared.parsed.Parsed.{Parsed}
use Rattle.lw_mapped.specs.declared.closing.Mapped.{Mapped}
use Rattle.lw_check.specs.declared.verdict.Verdict.{Verdict}
use Rattle.lw_check.specs.Verdicts.{IsVerdict}
use Rattle.lw_files.specs.Sources.{FileStep, ReadsMapped}
use Rattle.lw_files.specs.Steps.{followed_by}
use Rattle.lw_map.specs.Faults.{IsChoiceFault}
use Rattle.lw_area.specs.declared.refusal.Refusal.{Refusal}
use Rattle.lw_area.specs.declared.refusal.Refusal.TheVariants as refusal
use Rattle.lw_area.specs.declared.sources.Further.{Further}
use Rattle.lw_area.specs.Recovered.{IsSpaceOf, Space, form_in, listing_in}
use Rattle.lw_area.specs.Sources.{Reads, ReadsAll, Step}
use Rattle.lw_area.specs.Words.{Settings, Task}

-- The verdict on a netlist over the graph of the network and of others that were joined to it, and the classes of its
-- outputs.
pub record HasVerdictIn (settings : Settings) (cells : List CellParts) (model : Parsed) (further : List Further)
    (mapped : Mapped) (v : Verdict) : Type 0 where
  pub space : Space
  pub over : IsSpaceOf settings model.network further space
  pub graph : Graph
  pub is_graph : IsGraphOf settings.options.mode model.network.inputs (listing_in settings space) graph
  pub roots : List ClassId
  pub roots_are : numbers roots ≡ form_classes (listing_in settings space) (form_in settings model.network) graph
      (ports_of model.network).outputs
  pub is : IsVerdict model.network model.frame model.starts cells graph (library_patterns cells) roots mapped v

abbrev pub in_mapped : {A : Type 0} → FileStep A → Step A
in_mapped step files (Ok x) = step files (Ok x)
in_mapped step files (Err (refusal.Mapped fault)) = step files (Err fault)
in_mapped step files (Err other) = ⊥

abbrev pub IsJudged : Settings → List CellParts → Parsed → List Further → Mapped → Step Verdict
IsJudged settings cells model further mapped files (Ok v) = HasVerdictIn settings cells model further mapped v
IsJudged settings cells model further mapped files (Err (refusal.Unmapped fault)) =
    IsChoiceFault settings.options model.network fault
IsJudged settings cells model further mapped files (Err other) = ⊥

-- The files are read, the netlist's last, and the first step that refuses decides.
abbrev pub IsVerdictOf : Task → List ℕ → Step Verdict
IsVerdictOf task word =
    ReadsAll task (λ cells model further. followed_by (in_mapped (ReadsMapped word cells))
    (λ mapped. IsJudged task.settings cells model further mapped))

abbrev pub Judges : {F : Type 0} → (F → Option (List File)) → (F → ℕ) → F → F → Task → List ℕ → Result Verdict Refusal
    → Type 0
Judges told faults old new task word result = Reads told faults old new (IsVerdictOf task word) result
