-- The library, the network and further networks that are read.
use Rattle.std.proofs.Common.{◌≡◌, inl, ℕ, ◌≤◌, List, Option, Ok, Err, refl}
use Rattle.lw_io.specs.declared.file.File.{File}
use Rattle.lw_files.specs.declared.fault.FileFault.{FileFault}
use Rattle.lw_files.specs.Reading as file
use Rattle.lw_files.specs.Sources.{ReadsLibrary, ReadsModel}
use Rattle.lw_files.specs.Steps.{followed_by}
use Rattle.lw_net.specs.Networks.{input_names}
use Rattle.lw_genlib.specs.Cells.{CellParts}
use Rattle.lw_blif.specs.declared.parsed.Parsed.{Parsed}
use Rattle.lw_area.specs.declared.refusal.Refusal.{Refusal}
use Rattle.lw_area.specs.declared.refusal.Refusal.TheVariants.{Library, Network}
use Rattle.lw_area.specs.declared.sources.Further.{Further}
use Rattle.lw_area.specs.declared.sources.Sources.{Sources}
use Rattle.lw_area.specs.Sources.{AreSourcesOf, HasReason, IsSourcesOf, ReadsFurther, Step, in_library, in_network}
use Rattle.lw_area.specs.Words.{Task}
use Rattle.lw_area.proofs.Steps.{library_reason, network_reason, stops, then_comes}

module _ (told : Option (List File)) (task : Task) where
  abbrev first : Step (List CellParts)
  first = in_library (ReadsLibrary task.library)

  abbrev second : Step Parsed
  second = in_network (ReadsModel task.network)

  abbrev third : Parsed → Step (List Further)
  third model = ReadsFurther (input_names model.network) 0 task.more

  abbrev after_model : List CellParts → Parsed → Step Sources
  after_model cells model = followed_by (third model) (λ further. AreSourcesOf cells model further)

  abbrev after_library : List CellParts → Step Sources
  after_library cells = followed_by second (λ model. after_model cells model)

  pub no_library : (before now : ℕ) (fault : FileFault) → file.HasReason told before now (ReadsLibrary task.library) fault → HasReason told before now (IsSourcesOf task) (Library fault)
  no_library before now fault reason = stops told first after_library before now (Library fault) (library_reason told before now (ReadsLibrary task.library) fault reason)

  module _ (cells : List CellParts) (has_cells : file.Known told (ReadsLibrary task.library) (Ok cells)) (before mid : ℕ) (le : before ≤ mid) where
    from_library : (now : ℕ) (e : Refusal) → HasReason told mid now (after_library cells) e → HasReason told before now (IsSourcesOf task) e
    from_library now e reason = then_comes told first after_library before mid now cells (Err e) le has_cells reason

    pub no_network : (now : ℕ) (fault : FileFault) → file.HasReason told mid now (ReadsModel task.network) fault → HasReason told before now (IsSourcesOf task) (Network fault)
    no_network now fault reason =
        from_library now (Network fault) (stops told second (λ model. after_model cells model) mid now (Network fault) (network_reason told mid now (ReadsModel task.network) fault reason))

    module _ (model : Parsed) (has_model : file.Known told (ReadsModel task.network) (Ok model)) (last : ℕ) (later : mid ≤ last) where
      pub no_further : (now : ℕ) (e : Refusal) → HasReason told last now (third model) e → HasReason told before now (IsSourcesOf task) e
      no_further now e reason =
          from_library now e (then_comes told second (λ m. after_model cells m) mid last now model (Err e) later has_model (stops told (third model) (λ further. AreSourcesOf cells model further) last now e reason))

      pub all_sources : (s : Sources) → s.library ≡ cells → s.model ≡ model → file.Known told (third model) (Ok s.further.items) → file.Known told (IsSourcesOf task) (Ok s)
      all_sources s same_cells same_model has files known =
          inl (cells, has_cells files known, inl (model, has_model files known, inl (s.further.items, has files known, (same_cells, same_model, refl))))
