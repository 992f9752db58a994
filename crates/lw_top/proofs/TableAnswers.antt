-- An answer with a text of tables.
use Rattle.std.proofs.Common.{inl, inr, ℕ, List, Ok}
use Rattle.lw_blif.specs.declared.parsed.Parsed.{Parsed}
use Rattle.lw_map.specs.Options.{Options}
use Rattle.lw_map.specs.Tabled.{HasReadableNames}
use Rattle.lw_files.specs.Steps.{Files, followed_by}
use Rattle.lw_top.specs.Steps.{Step}
use Rattle.lw_top.specs.Tables.{IsTablesText, Tabulates}
use Rattle.lw_top.specs.Answers.{ReadsModel, IsTablingAnswer}
use Rattle.lw_files.proofs.SignalNames.{IsNamed}
use Rattle.lw_files.proofs.Kept.{AreKept}

-- the model and its tables
pub record IsTabulated (leaves : ℕ) (options : Options) (network : List ℕ) (files : Files) (text : List ℕ) : Type 0 where
  pub model : Parsed
  pub read : ReadsModel network files (Ok model)
  pub comes : IsTablesText leaves options model text

-- a step that another follows comes to something
first_ok : {A B : Type 0} (first : Step A) (next : A → Step B) (files : Files) (b : B) → followed_by first next files (Ok b) → (x : A) × first files (Ok x) × next x files (Ok b)
first_ok first next files b (inl there) = there
first_ok first next files b (inr (e, refused, is)) = cc

pub tabulated : (leaves : ℕ) (options : Options) (network : List ℕ) (files : Files) (text : List ℕ) → IsTablingAnswer leaves options network files (Ok text) → IsTabulated leaves options network files text
tabulated leaves options network files text answer =
    let (model, read, comes) = first_ok (ReadsModel network) (λ (model : Parsed). Tabulates leaves options model) files text answer in
    record { model = model; read = read; comes = comes }

pub readable_names : (model : Parsed) → IsNamed model → AreKept model → HasReadableNames model.network model.frame
readable_names model named kept = record {
  model = named.model;
  inputs = named.inputs;
  outputs = named.outputs;
  latches = named.latches;
  frame_fits = kept.fits.frame;
}
