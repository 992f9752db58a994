-- What a text of tables is that was written.
use Rattle.std.specs.Prelude.{◌≡◌, ℕ, List, Some, Ok}
use Rattle.lw_blif.specs.declared.parsed.Parsed.{Parsed}
use Rattle.lw_map.specs.Options.{Options}
use Rattle.lw_map.specs.Tabled.{IsTablesTextOf}
use Rattle.lw_files.specs.Steps.{Files}
use Rattle.lw_top.specs.Words.{tabling, command_of}
use Rattle.lw_top.specs.Answers.{ReadsModel}

-- The words ask for lookup tables of a network. The text is BLIF, its limit on the number of signals aside: a network
-- with the model's name, latches, inputs and roots, whose inputs start at 0. No node has more fan-ins than was asked
-- for. Each root has the model's value under every assignment, and its depth, wires not counted, is the least of any
-- cover by tables of any tree that the rules derive for it.
pub record AreTables (words : List (List ℕ)) (files : Files) (text : List ℕ) : Type 0 where
  pub leaves : ℕ
  pub options : Options
  pub network : List ℕ
  pub form : command_of words ≡ Some (tabling leaves options network)
  pub model : Parsed
  pub read : ReadsModel network files (Ok model)
  pub tables : IsTablesTextOf options leaves model.network model.frame text
