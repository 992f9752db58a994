-- An answer to words that ask for a mapping cannot fail to be there.
use Rattle.std.proofs.Common.{ℕ, ◌≡◌, Bool, List, Some, Result, Ok}
use Rattle.lw_genlib.specs.Cells.{CellParts}
use Rattle.lw_blif.specs.declared.parsed.Parsed.{Parsed}
use Rattle.lw_files.specs.Steps.{Files, followed_by}
use Rattle.lw_files.proofs.Kept.{cells_kept, model_kept}
use Rattle.lw_map.specs.Options.{Options}
use Rattle.lw_top.specs.declared.refusal.Refusal.{Refusal}
use Rattle.lw_top.specs.Words.{Command, mapping, command_of}
use Rattle.lw_top.specs.Maps.{Maps}
use Rattle.lw_top.specs.Answers.{ReadsLibrary, ReadsModel, IsMappingAnswer, IsAnswer}
use Rattle.lw_top.proofs.InRange.{command_in_range}
use Rattle.lw_exists.specs.Weakly.{Weakly}
use Rattle.lw_exists.proofs.SomeMaps.{some_maps}
use Rattle.lw_exists.proofs.SomeFiles.{some_followed, some_command_answer, read_library, read_model}

module _ (words : List (List ℕ)) (files : Files) (options : Options) (certified : Bool) (library network : List ℕ) (form : command_of words ≡ Some (mapping options certified library network)) where
  abbrev own : Command
  own = mapping options certified library network

  read_maps : (cells : List CellParts) → ReadsLibrary library files (Ok cells) → (model : Parsed) → ReadsModel network files (Ok model) → Weakly ((r : Result (List ℕ) Refusal) × Maps options certified cells model files r)
  read_maps cells lib model read =
      some_maps options certified cells model files (command_in_range words own form) (model_kept network files model read).network (cells_kept library files cells lib)

  some_mapping_answer : Weakly ((r : Result (List ℕ) Refusal) × IsMappingAnswer options certified library network files r)
  some_mapping_answer =
      some_followed (ReadsLibrary library) (λ cells. followed_by (ReadsModel network) (λ model. Maps options certified cells model)) files (read_library library files) (λ cells lib.
      some_followed (ReadsModel network) (λ model. Maps options certified cells model) files (read_model network files) (read_maps cells lib))

  pub some_answer : Weakly ((r : Result (List ℕ) Refusal) × IsAnswer words files r)
  some_answer = some_command_answer words files own form some_mapping_answer
