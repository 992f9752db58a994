-- Covers of a network's outputs, and verdicts on netlists, over the graph of several networks.
use Rattle.std.specs.Prelude.{ℕ, ◌<◌, ◌≤◌, ◌≡◌, ⊤, List, length, Some, slice_get}
use Rattle.lw_pool.specs.declared.id.NetId.{NetId}
use Rattle.lw_pool.specs.Numbers.{numbers}
use Rattle.lw_fixed.specs.declared.micro.Micro.{Micro}
use Rattle.lw_laws.specs.Graphs.{most_classes}
use Rattle.lw_laws.specs.Headline.{HasNoCoverOf}
use Rattle.lw_laws.specs.MappedNetlists.{IsNetlistOfForms}
use Rattle.lw_net.specs.Networks.{NetworkParts, name_in, ports_of}
use Rattle.lw_net.specs.Plain as network
use Rattle.lw_genlib.specs.Cells.{CellParts}
use Rattle.lw_genlib.specs.Tables.{timing_of}
use Rattle.lw_pattern.specs.Libraries.{library_patterns}
use Rattle.lw_cost.specs.Labels.{AreLeastMarks, costs_of}
use Rattle.lw_label.specs.Delays.{most_time, time_cost}
use Rattle.lw_netlist.specs.Netlists.{IsNetlist}
use Rattle.lw_netlist.specs.Plain as netlist
use Rattle.lw_netlist.specs.Plain.{IsOver, mapped_ports}
use Rattle.lw_blif.specs.declared.parsed.Parsed.{Parsed}
use Rattle.lw_mapped.specs.declared.closing.Mapped.{Mapped}
use Rattle.lw_check.specs.declared.verdict.Verdict.{Verdict}
use Rattle.lw_check.specs.Verdicts.{IsVerdict}
use Rattle.lw_map.specs.Options.{Options, plain_options}
use Rattle.lw_extract.specs.declared.fault.ExtractFault.{ExtractFault}
use Rattle.lw_extract.specs.declared.fault.ExtractFault.TheVariants as extract
use Rattle.lw_map.specs.declared.fault.MapFault.{MapFault}
use Rattle.lw_map.specs.declared.fault.MapFault.TheVariants.{NoCover, Memory}
use Rattle.lw_joined.specs.declared.choices.Joined.{Joined}
use Rattle.lw_joined.specs.declared.covering.Covered.{Covered}
use Rattle.lw_joined.specs.Choices.{IsJoined}
use Rattle.lw_joined.specs.Joins.{joined_listing, own_form}

abbrev pub options_of : Joined → Options
options_of j = plain_options j.choices.options

-- The netlist is the one that the network's forms are mapped to over the graph: of all covers of all trees that the
-- rules and the links derive for an output, it has one of the least time from the starts of the inputs on.
pub record IsFastestOver (cells : List CellParts) (net : NetworkParts) (starts : List Micro) (j : Joined)
    (is : IsJoined net j) (c : Covered) : Type 0 where
  pub kept : IsNetlist c.cover.netlist
  pub model_name : c.cover.netlist.model ≡ net.model
  pub netlist : IsNetlistOfForms (options_of j).mode net.inputs
      (joined_listing (options_of j).width (network.plain j.union) is.links)
      (own_form (options_of j).width (network.plain net)) (ports_of net) (library_patterns cells)
      (timing_of cells starts) most_time (netlist.plain c.cover.netlist) c.cover.netlist.names
      (mapped_ports c.cover.netlist)
  pub graph : netlist.graph ≡ j.choices.graph
  pub labels : netlist.labels ≡ costs_of c.labels
  pub gates : netlist.gates ≡ numbers c.cover.classes

-- It is so by whatever links the graph is of; the labels are the least, and the netlist is of the library's cells.
pub record IsCoveredBy (cells : List CellParts) (net : NetworkParts) (starts : List Micro) (j : Joined)
    (c : Covered) : Type 0 where
  pub fastest : (is : IsJoined net j) → IsFastestOver cells net starts j is c
  pub least : AreLeastMarks j.choices.graph (time_cost cells starts) (library_patterns cells) c.labels
  pub over : IsOver cells c.cover.netlist
  pub few : length c.cover.netlist.gates ≤ most_classes

-- no cover by the library's cells is of a tree that the rules and the links derive for the output
abbrev pub IsUncoveredOver : List CellParts → (net : NetworkParts) → List Micro → (j : Joined) → IsJoined net j
    → NetId → Type 0
IsUncoveredOver cells net starts j is output =
    HasNoCoverOf (options_of j).mode (options_of j).width
    (joined_listing (options_of j).width (network.plain j.union) is.links).signals
    (library_patterns cells) (timing_of cells starts)
    (own_form (options_of j).width (network.plain net) output.0)

-- the output at the place is the first that no cover is of
pub record IsFirstUncoveredOver (cells : List CellParts) (net : NetworkParts) (starts : List Micro) (j : Joined)
    (is : IsJoined net j) (place : ℕ) : Type 0 where
  pub output : NetId
  pub at : slice_get net.outputs place ≡ Some output
  pub lacks : IsUncoveredOver cells net starts j is output
  pub first : (i : ℕ) (other : NetId) → i < place → slice_get net.outputs i ≡ Some other
      → IsUncoveredOver cells net starts j is other → ⊥

-- the name is that of the first output that no cover is of
pub record LacksCoverOver (cells : List CellParts) (net : NetworkParts) (starts : List Micro) (j : Joined)
    (is : IsJoined net j) (name : List ℕ) : Type 0 where
  pub place : ℕ
  pub lack : IsFirstUncoveredOver cells net starts j is place
  pub named : name ≡ name_in net lack.output

-- the same by its place
abbrev pub IsLackOver : List CellParts → NetworkParts → List Micro → Joined → ExtractFault → Type 0
IsLackOver cells net starts j (extract.NoCover place) =
    (is : IsJoined net j) → IsFirstUncoveredOver cells net starts j is place
IsLackOver cells net starts j extract.Memory = ⊤

-- The first output without a cover. Running out of memory needs no reason.
abbrev pub IsCoverFault : List CellParts → NetworkParts → List Micro → Joined → MapFault → Type 0
IsCoverFault cells net starts j (NoCover name) = (is : IsJoined net j) → LacksCoverOver cells net starts j is name
IsCoverFault cells net starts j Memory = ⊤
IsCoverFault cells net starts j other = ⊥

-- the verdict on the netlist, over the graph and the classes of the network's outputs
abbrev pub HasVerdict : List CellParts → Parsed → Joined → Mapped → Verdict → Type 0
HasVerdict cells model j mapped verdict =
    IsVerdict model.network model.frame model.starts cells j.choices.graph (library_patterns cells) j.choices.roots
    mapped verdict
