-- What a run promises over known files.
use Rattle.std.specs.Prelude.{◌≡◌, ℕ, List, Ok}
use Rattle.lw_laws.specs.Headline.{MapsForms}
use Rattle.lw_net.specs.Networks.{input_names}
use Rattle.lw_net.specs.Plain as network
use Rattle.lw_net.specs.Ports.{ports_of}
use Rattle.lw_blif.specs.declared.parsed.Parsed.{Parsed}
use Rattle.lw_genlib.specs.Cells.{CellParts}
use Rattle.lw_genlib.specs.Tables.{timing_of, truth_of_cells}
use Rattle.lw_pattern.specs.Libraries.{library_patterns}
use Rattle.lw_netlist.specs.Plain as netlist
use Rattle.lw_netlist.specs.Plain.{mapped_ports}
use Rattle.lw_files.specs.Sources.{ReadsLibrary, ReadsModel}
use Rattle.lw_files.specs.Steps.{Files}
use Rattle.lw_area.specs.declared.sources.Further.{Further}
use Rattle.lw_area.specs.Answers.{LacksCoverIn}
use Rattle.lw_area.specs.Recovered.{IsRecoveredText, form_in, listing_in}
use Rattle.lw_area.specs.Sources.{ReadsFurther}
use Rattle.lw_area.specs.Words.{Task, asked_of, mapping}

-- the words ask for a netlist
abbrev pub AsksFor : List (List ℕ) → Task → Type 0
AsksFor words task = asked_of words ≡ Ok (mapping task)

-- what the files of a task hold
pub record AreRead (task : Task) (files : Files) : Type 0 where
  pub cells : List CellParts
  pub model : Parsed
  pub further : List Further
  pub library_is : ReadsLibrary task.library files (Ok cells)
  pub network_is : ReadsModel task.network files (Ok model)
  pub further_are : ReadsFurther (input_names model.network) 0 task.more files (Ok further)

-- The text is that of a netlist with little area, for the library and the networks that were read.
pub record IsRecoveryOf (task : Task) (files : Files) (text : List ℕ) : Type 0 where
  pub read : AreRead task files
  pub is : IsRecoveredText task.settings read.cells read.model read.further text

-- The same, and the netlist maps the network's forms: each output arrives at the least time of any cover of any tree
-- that the rules and the links derive for it.
pub record IsFastestOf (task : Task) (files : Files) (text : List ℕ) : Type 0 where
  pub recovery : IsRecoveryOf task files text
  pub mapping_is : MapsForms task.settings.options.mode task.settings.options.width
      (listing_in task.settings recovery.is.space).signals (form_in task.settings recovery.read.model.network)
      (network.plain recovery.read.model.network) (ports_of recovery.read.model.network)
      (library_patterns recovery.read.cells) (timing_of recovery.read.cells recovery.read.model.starts)
      (truth_of_cells recovery.read.cells) (netlist.plain recovery.is.netlist) (mapped_ports recovery.is.netlist)

-- The first output of the network that no cover of any tree that the rules and the links derive for it has.
pub record LacksOutput (task : Task) (files : Files) (name : List ℕ) : Type 0 where
  pub read : AreRead task files
  pub lacks : LacksCoverIn task.settings read.cells read.model read.further name
