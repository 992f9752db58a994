-- A draft whose names are numbers.
use Rattle.std.specs.Prelude.{ℕ, ◌<◌, ◌≤◌, ◌≡◌, ◌++◌, None, List, map, length, All}
use Rattle.std.specs.List.{flat_map, IsDistinct}
use Rattle.std.specs.Str.{bytes_eq}
use Rattle.lw_net.specs.declared.draft.Draft.{Draft}
use Rattle.lw_net.specs.declared.written.Written.{Written}
use Rattle.lw_pool.specs.Numbers.{most_signals}
use Rattle.lw_net.specs.Closing.{IsClosed, IsDraft, fanins_of, first_undefined, network_in, signals_of, undefined_in}
use Rattle.lw_net.specs.Networks.{IsNetwork}
use Rattle.lw_net.specs.Numbered.{numbered}
use Rattle.lw_net.specs.Plain.{HasRisingDepths}
use Rattle.lw_net.specs.Written.{names_in, named_nodes, number_of_out, IsWithin, ArePlaces}

-- the draft that is written
abbrev pub draft_in : Written → Draft
draft_in w = record {
  model = w.model;
  inputs = names_in w.names.keys w.inputs.items;
  outputs = names_in w.names.keys w.outputs.items;
  nodes = named_nodes w.names.keys w.nodes.items;
}

-- the numbers of inputs, and then those of what the nodes drive
abbrev pub signal_numbers : Written → List ℕ
signal_numbers w = w.inputs.items ++ map number_of_out w.nodes.items

-- Names differ, and each number is that of one.
pub record IsWritten (w : Written) : Type 0 where
  pub names : IsDistinct bytes_eq w.names.keys
  pub inputs : All (λ n. n < length w.names.keys) w.inputs.items
  pub outputs : All (λ n. n < length w.names.keys) w.outputs.items
  pub nodes : All (IsWithin (length w.names.keys)) w.nodes.items

-- The signals differ, and these are their places.
pub record IsTable (w : Written) (places : List ℕ) : Type 0 where
  pub kept : IsWritten w
  pub distinct : IsDistinct bytes_eq (signals_of (draft_in w))
  pub placed : ArePlaces (length w.names.keys) (length (signal_numbers w)) (signal_numbers w) places

-- Its signals differ, and are not too many.
pub record HasDistinctSignals (w : Written) : Type 0 where
  pub kept : IsWritten w
  pub distinct : IsDistinct bytes_eq (signals_of (draft_in w))
  pub few : length (signals_of (draft_in w)) ≤ most_signals

-- All holds of it that is asked of a draft.
pub record CanClose (w : Written) : Type 0 where
  pub kept : IsWritten w
  pub draft : IsDraft (draft_in w)

-- Each fan-in and each output is driven, and these are the numbers of the nodes' fan-ins.
pub record AreFaninNumbers (w : Written) (graph : List (List ℕ)) : Type 0 where
  pub numbers : graph ≡ numbered (signals_of (draft_in w)) (draft_in w).nodes
  pub fanins : undefined_in (signals_of (draft_in w)) (flat_map fanins_of (draft_in w).nodes) ≡ None
  pub defined : first_undefined (draft_in w) ≡ None

-- Its nodes stand as in the network to which this draft is closed.
pub record StandsInOrder (draft : Draft) (w : Written) : Type 0 where
  pub signals : HasDistinctSignals w
  pub network : IsNetwork (network_in (draft_in w) (draft_in w).nodes)
  pub closed : IsClosed draft (network_in (draft_in w) (draft_in w).nodes)
  pub depths : HasRisingDepths (network_in (draft_in w) (draft_in w).nodes)
