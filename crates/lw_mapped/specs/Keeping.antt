-- What is kept of what lines say.
use Rattle.std.specs.Prelude.{ℕ, ◌≡◌, ◌≤◌, ◌++◌, List, Option, None, IfSome, length, take, slice_index_or}
use Rattle.std.specs.Prelude.{option_to_list, ◌+◌, ◌^◌, ◌<◌, All}
use Rattle.std.specs.List.{flat_map}
use Rattle.std.specs.Option.{option_or}
use Rattle.std.specs.Str.{bytes_eq}
use Rattle.indexmap.specs.IndexMap.{get}
use Rattle.indexmap.specs.IndexSet.{insert_all}
use Rattle.lw_genlib.specs.Cells.{CellParts}
use Rattle.lw_named_netlist.specs.Closing.{IsOfCell}
use Rattle.lw_fixed.specs.declared.micro.Micro.{Micro}
use Rattle.lw_frame.specs.Starts.{Arrival}
use Rattle.lw_frame.specs.Frames.{each_once}
use Rattle.lw_frame.specs.Standing as arrival
use Rattle.lw_mapped.specs.declared.contents.Contents.{Contents}
use Rattle.lw_mapped.specs.declared.saying.Saying.{Saying}
use Rattle.lw_mapped.specs.Said.{models_in, inputs_in, outputs_in, gates_in, wires_in, latches_in, arrivals_in}
use Rattle.lw_mapped.specs.Said.{labels_in, nets_in, label_among, class_among}
use Rattle.lw_mapped.specs.Limits.{word_limit}
use Rattle.lw_mapped.specs.Parsed.{IsLabel}
use Rattle.lw_laws.specs.Graphs.{most_classes}

-- a label is below its limit
abbrev pub AreLow : List (Option Micro) → Type 0
AreLow labels = (class : ℕ) → IfSome (slice_index_or labels class None) IsLabel

-- This is kept of what lines say.
pub record Keeps (kept : Contents) (said : List Saying) : Type 0 where
  pub model : option_to_list kept.model ≡ take 1 (flat_map models_in said)
  pub inputs : kept.inputs ≡ flat_map inputs_in said
  pub outputs : kept.outputs.keys ≡ each_once (flat_map outputs_in said)
  pub gates : kept.gates ≡ flat_map gates_in said
  pub wires : kept.wires ≡ flat_map wires_in said
  pub latches : kept.latches ≡ flat_map latches_in said
  pub arrivals : arrival.StandsFor kept.arrivals (flat_map arrivals_in said)
  pub labels : (class : ℕ) → slice_index_or kept.labels.items class None ≡ label_among (flat_map labels_in said) class
  pub classes : length kept.labels.items ≤ most_classes
  pub low : AreLow kept.labels.items
  pub nets : (name : List ℕ) → get bytes_eq kept.nets name ≡ class_among (flat_map nets_in said) name

-- What a line says is taken.
pub record Takes (old : Contents) (what : Saying) (new : Contents) : Type 0 where
  pub model : option_to_list new.model ≡ take 1 (option_to_list old.model ++ models_in what)
  pub inputs : new.inputs ≡ old.inputs ++ inputs_in what
  pub outputs : new.outputs.keys ≡ insert_all bytes_eq old.outputs.keys (outputs_in what)
  pub gates : new.gates ≡ old.gates ++ gates_in what
  pub wires : new.wires ≡ old.wires ++ wires_in what
  pub latches : new.latches ≡ old.latches ++ latches_in what
  pub arrivals : (lines : List Arrival) → arrival.StandsFor old.arrivals lines
      → arrival.StandsFor new.arrivals (lines ++ arrivals_in what)
  pub labels : (class : ℕ) → slice_index_or new.labels.items class None ≡ option_or
      (slice_index_or old.labels.items class None) (label_among (labels_in what) class)
  pub classes : length old.labels.items ≤ most_classes → length new.labels.items ≤ most_classes
  pub low : AreLow old.labels.items → AreLow new.labels.items
  pub nets : (name : List ℕ) → get bytes_eq new.nets name ≡ option_or (get bytes_eq old.nets name)
      (class_among (nets_in what) name)

-- This is kept of what few lines say, over a library.
pub record IsOfFew (kept : Contents) (cells : List CellParts) : Type 0 where
  pub said : List Saying
  pub keeps : Keeps kept said
  pub gates : All (IsOfCell cells) (flat_map gates_in said)
  pub few : length (flat_map inputs_in said) + length (flat_map latches_in said) + length (flat_map gates_in said) <
      word_limit
  pub outputs : length (each_once (flat_map outputs_in said)) < 2 ^ 32
