-- The netlist that a network is mapped to by the cells of a library, or why there is none.
use Rattle.std.specs.Prelude.{ℕ, ◌<◌, ◌≤◌, ◌≡◌, List, length, map, Some, slice_get}
use Rattle.lw_pool.specs.declared.id.NetId.{NetId}
use Rattle.lw_fixed.specs.declared.micro.Micro.{Micro}
use Rattle.lw_laws.specs.Signals.{sop_at, signals_of}
use Rattle.lw_laws.specs.Decompositions.{HasTree}
use Rattle.lw_laws.specs.Covers.{Cover, tree_of, IsCover}
use Rattle.lw_laws.specs.Occurring.{occurring_forms, split_count}
use Rattle.lw_laws.specs.Headline.{HasNoCover}
use Rattle.lw_laws.specs.MappedNetlists.{IsNetlistOf}
use Rattle.lw_net.specs.Networks.{NetworkParts, name_in}
use Rattle.lw_net.specs.Plain as network
use Rattle.lw_genlib.specs.Cells.{CellParts}
use Rattle.lw_genlib.specs.Tables.{delays_of_cells, timing_of}
use Rattle.lw_form.specs.Limits.{most_bases}
use Rattle.lw_pattern.specs.Libraries.{library_patterns}
use Rattle.lw_assoc.specs.Splits.{most_splits}
use Rattle.lw_label.specs.Delays.{most_time}
use Rattle.lw_netlist.specs.Netlists.{NetlistParts, IsNetlist}
use Rattle.lw_netlist.specs.Plain as netlist
use Rattle.lw_map.specs.Options.{Options}
use Rattle.lw_net.specs.Ports.{ports_of}
use Rattle.lw_netlist.specs.Plain.{mapped_ports}

-- Ports.

-- The netlist is the one that the network is mapped to: of all covers of all trees that the rules derive for an output,
-- it has one of the least time from the starts of the inputs on.
pub record IsMappedNetlist (options : Options) (cells : List CellParts) (net : NetworkParts) (starts : List Micro)
    (n : NetlistParts) : Type 0 where
  pub kept : IsNetlist n
  pub model_name : n.model ≡ net.model
  pub is : IsNetlistOf options.mode options.width (network.plain net) (ports_of net) (library_patterns cells)
      (timing_of cells starts) most_time (netlist.plain n) n.names (mapped_ports n)

-- Limits.

-- how many base forms occur in a network
abbrev pub base_count : Options → NetworkParts → ℕ
base_count options net = length (occurring_forms options.width (network.plain net))

-- how many splits they have
abbrev pub splits_count : Options → NetworkParts → ℕ
splits_count options net = split_count options.mode (occurring_forms options.width (network.plain net))

-- there are no more of both than are dealt with
pub record IsWithinLimits (options : Options) (net : NetworkParts) : Type 0 where
  pub forms : base_count options net ≤ most_bases
  pub splits : splits_count options net ≤ most_splits

abbrev pub HasTooManyForms : Options → NetworkParts → Type 0
HasTooManyForms options net = most_bases < base_count options net

abbrev pub HasTooManySplits : Options → NetworkParts → Type 0
HasTooManySplits options net = (base_count options net ≤ most_bases) × (most_splits < splits_count options net)

-- Outputs with a cover, and without one.

-- the cover is one by the library's cells of a tree that the rules derive for the net's sum of products
pub record IsCoverOf (options : Options) (cells : List CellParts) (net : NetworkParts) (s : ℕ)
    (k : Cover) : Type 0 where
  pub is_cover : IsCover (map length (delays_of_cells cells)) (library_patterns cells) k
  pub has_tree : HasTree options.mode options.width (signals_of options.width (network.plain net))
      (sop_at (signals_of options.width (network.plain net)) s) (tree_of k)

abbrev pub IsCovered : Options → List CellParts → NetworkParts → NetId → Type 0
IsCovered options cells net output = (k : Cover) × IsCoverOf options cells net output.0 k

-- no cover by the library's cells is of a tree that the rules derive for the output
abbrev pub IsUncovered : Options → List CellParts → NetworkParts → List Micro → NetId → Type 0
IsUncovered options cells net starts output =
    HasNoCover options.mode options.width (network.plain net) (library_patterns cells) (timing_of cells starts) output.0

-- The name is that of the first output that no cover is of: each output before it has one.
pub record LacksCover (options : Options) (cells : List CellParts) (net : NetworkParts) (starts : List Micro)
    (name : List ℕ) : Type 0 where
  pub within : IsWithinLimits options net
  pub place : ℕ
  pub output : NetId
  pub at : slice_get net.outputs place ≡ Some output
  pub named : name ≡ name_in net output
  pub lacks : IsUncovered options cells net starts output
  pub first : (i : ℕ) (other : NetId) → i < place → slice_get net.outputs i ≡ Some other
      → IsCovered options cells net other
